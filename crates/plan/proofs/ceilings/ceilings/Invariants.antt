-- `ceilings` meets its contract: a loop that counts one thread more for all sections in each turn.
use mathlib.Core.Path.{◌≡◌}
use Prim.Native.Nat.{ℕ, ◌-◌, ◌≤◌, ◌<◌}
use lib.ListN.{length, get_or}
use Rattle.plan.specs.View.{base_in, may_take_in}
use Rattle.model.proofs.Loops.{TopLeft}
use Rattle.plan.proofs.ceilings.ceilings.Given as goal

abbrev pub invariant-loop-t : goal.invariant-loop-t
invariant-loop-t l =
    (l.t ≤ l.threads) × (length l.all ≡ 16) × ((s : ℕ) → s < 16 → TopLeft (λ k. may_take_in l.threads l.needs k s) (base_in l.threads l.bases) l.threads l.t (get_or l.all s 0))

abbrev pub decreases-loop-t : goal.decreases-loop-t
decreases-loop-t l = l.threads - l.t
