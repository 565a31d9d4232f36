-- `raised` meets its contract: a loop that stores one section's greatest base in each turn.
use mathlib.Core.Path.{◌≡◌}
use mathlib.Core.Bool.{cond}
use mathlib.Core.List.{List}
use Prim.Native.Nat.{ℕ, ◌-◌, ◌≤◌, max}
use lib.ListN.{length, get_or}
use Rattle.model.specs.Plan.{bit}
use Rattle.model.proofs.Loops.{Filled}
use Rattle.plan.proofs.ceilings.raised.Given as goal

-- one section's
abbrev pub top : (all : List ℕ) (base rules section : ℕ) → ℕ
top all b n s = cond (bit n s) (max (get_or all s 0) b) (get_or all s 0)

abbrev pub invariant-loop-s : goal.invariant-loop-s
invariant-loop-s l = (l.s ≤ 16) × (length l.next ≡ 16) × Filled (top l.all l.base l.needs) 16 l.s l.next

abbrev pub decreases-loop-s : goal.decreases-loop-s
decreases-loop-s l = 16 - l.s
