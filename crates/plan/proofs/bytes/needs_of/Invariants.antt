-- `needs_of` meets its contract: what is stored and what is left give the needs.
use mathlib.Core.Path.{◌≡◌}
use Prim.Native.Nat.{◌-◌, ◌≤◌}
use lib.ListN.{length}
use Rattle.plan.specs.Bytes.{thread_count, needs_at}
use Rattle.model.proofs.Loops.{Filled}
use Rattle.plan.proofs.bytes.needs_of.Given as goal

abbrev pub invariant-loop-t : goal.invariant-loop-t
invariant-loop-t l =
    (l.t ≤ l.threads) × (length l.needs ≡ 16) × Filled (needs_at l.bytes) (thread_count l.bytes) l.t l.needs

abbrev pub decreases-loop-t : goal.decreases-loop-t
decreases-loop-t l = l.threads - l.t
