-- `with_nibble` meets its contract: the old number stands within the word, and no shift loses a bit.
use mathlib.Core.Path.{◌≡◌}
use Prim.Native.Nat.{◌+◌, ◌-◌, ◌*◌, ◌%◌, ◌^◌}
use native.Mathlib.Omega.{arith}
use borrow.Author.Rules.{rules}
use Rattle.lists.specs.Words.{nibble, with_nibble}
use Rattle.lists.proofs.Words.{nibble_within, exact, set-fits}
use Rattle.lists.proofs.nibbles.with_nibble.Goals as goal
use Rattle.lists.proofs.nibbles.with_nibble.Goals.{Start}

module _ (c : goal.Start) where
  old-exact : nibble c.args.word c.args.place * 2 ^ (4 * c.args.place) % 2 ^ 64 ≡ nibble c.args.word c.args.place * 2 ^ (4 * c.args.place)
  old-exact = exact (nibble c.args.word c.args.place) c.args.place (omega arith) c.requires.0

  sum-exact : (c.args.word - nibble c.args.word c.args.place * 2 ^ (4 * c.args.place) % 2 ^ 64) + c.args.value * 2 ^ (4 * c.args.place) % 2 ^ 64 ≡ with_nibble c.args.word c.args.place c.args.value
  sum-exact = rw (old-exact, exact c.args.value c.args.place c.requires.1 c.requires.0)

pub overflow_sub-result : goal.overflow_sub-result
overflow_sub-result c = rw (old-exact (goal.at.overflow_sub-result c).Start) (nibble_within c.args.word c.args.place)

pub overflow_add-result : goal.overflow_add-result
overflow_add-result c = record { fits = rw (sum-exact (goal.at.overflow_add-result c).Start) (set-fits c.args.word c.args.place c.args.value c.requires.0 (search rules) c.requires.1) }

pub returns : goal.returns
returns c = sum-exact (goal.at.returns c).Start
