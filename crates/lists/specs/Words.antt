-- Numbers below sixteen in a word, four bits each; the first stands in the lowest four.
use Rattle.std.specs.Prelude.{List, [], ◌∷◌, ℕ, zero, suc, ◌+◌, ◌-◌, ◌*◌, ◌/◌, ◌%◌, ◌^◌, get_or}

-- the number at a place
abbrev pub nibble : (word place : ℕ) → ℕ
nibble w k = w / 2 ^ (4 * k) % 16

-- the word with another number at a place
abbrev pub with_nibble : (word place value : ℕ) → ℕ
with_nibble w k v = (w - nibble w k * 2 ^ (4 * k)) + v * 2 ^ (4 * k)

-- the word with one more number in front; the last of sixteen goes
abbrev pub in_front : (word value : ℕ) → ℕ
in_front w v = w % 2 ^ 60 * 16 + v

-- the first numbers of a word, in order
abbrev pub nibbles : (count word : ℕ) → List ℕ
nibbles zero w = []
nibbles (suc n) w = w % 16 ∷ nibbles n (w / 16)

-- an entry of a table of sixteen, 0 past its end
abbrev pub entry_of : (table : List ℕ) (place : ℕ) → ℕ
entry_of table k = get_or table k 0
