-- `Holds::once` meets its contract: whether a section of the plan is noted, and how often it is left, is how often it is held.
use mathlib.Core.Path.{◌≡◌}
use Prim.Native.Nat.{ℕ, ◌+◌, ◌≤◌, ◌<◌}
use Rattle.model.specs.Formed.{times}
use Rattle.lists.specs.Words.{nibble}
use Rattle.lists.specs.Lists.{held_in, held}
use Rattle.lists.proofs.Holdings.{is_of_section}
use Rattle.lists.proofs.holds.Holds.once.Given as goal

abbrev pub invariant-loop-h : goal.invariant-loop-h
invariant-loop-h l =
    (s : ℕ) → s < l.sections → (nibble l.met s + times (is_of_section s) (held_in l.h-iterator.left l.h-iterator.sections l.h-iterator.threads) ≡ times (is_of_section s) (held l.fn.self)) × (nibble l.met s ≤ 1)
