-- `bases_of` meets its contract: what is stored and what is left give the bases.
use mathlib.Core.Path.{◌≡◌}
use Prim.Native.Nat.{◌-◌, ◌≤◌}
use lib.ListN.{length}
use Rattle.plan.specs.Bytes.{thread_count, base_at}
use Rattle.model.proofs.Loops.{Filled}
use Rattle.plan.proofs.bytes.bases_of.Given as goal

abbrev pub invariant-loop-t : goal.invariant-loop-t
invariant-loop-t l =
    (l.t ≤ l.threads) × (length l.bases ≡ 16) × Filled (base_at l.bytes) (thread_count l.bytes) l.t l.bases

abbrev pub decreases-loop-t : goal.decreases-loop-t
decreases-loop-t l = l.threads - l.t
