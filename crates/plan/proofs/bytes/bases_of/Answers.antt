-- `bases_of` meets its contract: what is stored and what is left give the bases.
use mathlib.Core.Path.{refl}
use native.Mathlib.Omega.{arith}
use lib.ListN.{length-set}
use Rattle.plan.specs.Bytes.{thread_count, base_at}
use Rattle.model.proofs.Loops.{stored}
use Rattle.plan.proofs.Entries.{filled}
use Rattle.plan.proofs.bytes.bases_of.Goals as goal

pub loop-t-preserved : goal.loop-t-preserved
loop-t-preserved c =
    let bytes = c.args.bytes.now in
    (omega arith, simp length-set c.loop-t.invariant.1, stored (base_at bytes) (thread_count bytes) c.loop-t.t c.loop-t.bases _ (omega arith) (omega arith) refl c.loop-t.invariant.2)

pub returns : goal.returns
returns c =
    let bytes = c.args.bytes.now in
    filled (base_at bytes) (thread_count bytes) c.loop-t.t c.loop-t.bases (omega arith) (omega arith) c.loop-t.invariant.2
