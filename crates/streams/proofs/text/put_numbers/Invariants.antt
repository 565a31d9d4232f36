-- `put_numbers` meets its contract: the text and what the numbers left make are what all of them make.
use Rattle.std.proofs.Common.{◌≡◌, ◌++◌, ◌+◌, ◌*◌, ◌≤◌, length, drop}
use Rattle.std.specs.List.{flat_map}
use Rattle.streams.specs.Text.{spaced}
use Rattle.streams.proofs.text.put_numbers.Given as goal

abbrev pub invariant-loop-n : goal.invariant-loop-n
invariant-loop-n l =
    (l.n-index ≤ length l.numbers) × (l.out.items ++ flat_map spaced (drop l.n-index l.numbers) ≡ l.initial.out.items ++ flat_map spaced l.numbers) × (length l.out.items ≤ length l.initial.out.items + 21 * l.n-index)
