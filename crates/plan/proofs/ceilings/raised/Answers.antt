-- `raised` meets its contract: a loop that stores one section's greatest base in each turn.
use mathlib.Core.Path.{sym, ◌∙◌}
use native.Mathlib.Omega.{arith}
use lib.ListN.{length-set}
use lib.Seq.{take_all}
use Rattle.model.proofs.Loops.{stored, full}
use Rattle.plan.proofs.ceilings.raised.Invariants.{top}
use Rattle.plan.proofs.ceilings.raised.Goals as goal

pub loop-s-preserved : goal.loop-s-preserved
loop-s-preserved c =
    let a = c.args in
    let r = c.raise in
    (omega arith, simp length-set c.loop-s.invariant.1, stored (top a.all a.base a.needs) 16 c.loop-s.s c.loop-s.next r.result (omega arith) (omega arith) r.ensures c.loop-s.invariant.2)

pub returns : goal.returns
returns c =
    let a = c.args in
    sym (take_all c.loop-s.s c.loop-s.next (omega arith)) ∙ full (top a.all a.base a.needs) 16 c.loop-s.s c.loop-s.next (omega arith) c.loop-s.invariant.2
