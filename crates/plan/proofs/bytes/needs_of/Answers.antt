-- `needs_of` meets its contract: what is stored and what is left give the needs.
use mathlib.Core.Path.{◌≡◌, ap, ◌∙◌}
use Prim.Native.Nat.{◌+◌, ◌*◌}
use native.Mathlib.Omega.{arith}
use lib.ListN.{length-set}
use Rattle.plan.specs.Bytes.{thread_count, needs_at}
use Rattle.plan.specs.Words.{word}
use Rattle.model.proofs.Loops.{stored}
use Rattle.plan.proofs.Entries.{filled}
use Rattle.plan.proofs.bytes.needs_of.Goals as goal

pub loop-t-preserved : goal.loop-t-preserved
loop-t-preserved c =
    let bytes = c.args.bytes.now in
    let e : c.word_at.result ≡ needs_at bytes c.loop-t.t = c.word_at.ensures ∙ ap (λ n. word bytes (2 + n + 2 * c.loop-t.t)) c.byte_at-threads.ensures in
    (omega arith, simp length-set c.loop-t.invariant.1, stored (needs_at bytes) (thread_count bytes) c.loop-t.t c.loop-t.needs _ (omega arith) (omega arith) e c.loop-t.invariant.2)

pub returns : goal.returns
returns c =
    let bytes = c.args.bytes.now in
    filled (needs_at bytes) (thread_count bytes) c.loop-t.t c.loop-t.needs (omega arith) (omega arith) c.loop-t.invariant.2
