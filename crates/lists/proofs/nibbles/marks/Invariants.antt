-- `marks` meets its contract: what each place of the word counts, and how often its number is left, is what it counted at first and how often its number stands in the other word.
use mathlib.Core.Path.{◌≡◌}
use Prim.Native.Nat.{ℕ, ◌+◌, ◌^◌, ◌<◌}
use lib.Dec.{eqb}
use Rattle.model.specs.Formed.{times}
use Rattle.lists.specs.Words.{nibble, nibbles}
use Rattle.lists.proofs.nibbles.marks.Given as goal

-- what each place of the word counts, and how often its number is left
abbrev pub Counts : (start word count total rest left : ℕ) → Type 0
Counts start word count total rest left = (t : ℕ) → t < 16 → nibble total t + times (λ u. eqb u t) (nibbles left rest) ≡ nibble start t + times (λ u. eqb u t) (nibbles count word)

abbrev pub invariant-loop-t : goal.invariant-loop-t
invariant-loop-t l = (l.total < 2 ^ 64) × Counts l.start l.word l.count l.total l.t-iterator.rest l.t-iterator.left
