-- Bytes, and numbers of two bytes, low byte first. A byte past the end counts as 0.
use Rattle.std.specs.Prelude.{List, ℕ, ◌+◌, ◌*◌, get_or}

abbrev pub byte : List ℕ → (place : ℕ) → ℕ
byte bytes place = get_or bytes place 0

abbrev pub word : List ℕ → (place : ℕ) → ℕ
word bytes place = byte bytes place + 256 * byte bytes (place + 1)
