-- `tally` meets its contract: what each place of the table counts, and how often its number is left, is how often it stands in the word.
use mathlib.Core.Path.{◌≡◌}
use Prim.Native.Nat.{ℕ, ◌+◌, ◌<◌}
use lib.Dec.{eqb}
use lib.ListN.{length}
use Rattle.model.specs.Formed.{times}
use Rattle.lists.specs.Words.{nibbles, entry_of}
use Rattle.lists.proofs.nibbles.tally.Given as goal

abbrev pub invariant-loop-t : goal.invariant-loop-t
invariant-loop-t l =
    (length l.found ≡ 16) × ((t : ℕ) → t < 16 → entry_of l.found t + times (λ u. eqb u t) (nibbles l.t-iterator.left l.t-iterator.rest) ≡ times (λ u. eqb u t) (nibbles l.count l.word))
