-- A line of text as bytes: words and numbers in ASCII, a space between each two, a line feed at the end.
use Rattle.std.specs.Prelude.{cond, List, [], ◌∷◌, ◌++◌, ℕ, zero, suc, ◌+◌, ◌/◌, ◌%◌, ltb}
use Prim.Native.Char.{code}
use Prim.Native.String.{String, [] as ε, ◌∷◌ as ◌∷ᶜ◌}

-- the bytes of a text
abbrev pub ascii : String → List ℕ
ascii ε = []
ascii (c ∷ᶜ s) = code c ∷ ascii s

-- the code of a digit: `0` is 48
abbrev pub digit : ℕ → ℕ
digit d = 48 + d

-- The decimal digits of a number: below ten its one digit, else those of its tenth and then the last. So no zero stands in front of another
-- digit. Any d above n allows for all of them: law decimal_by_tenth of proofs/Decimal.antt says it without d.
abbrev pub decimal_within : (d n : ℕ) → List ℕ
decimal_within zero n = []
decimal_within (suc d) n = cond (ltb n 10) (digit n ∷ []) (decimal_within d (n / 10) ++ digit (n % 10) ∷ [])

unfoldable pub decimal : ℕ → List ℕ
decimal n = decimal_within (suc n) n

-- the words with a space between each two, and a line feed behind the last
abbrev pub line : List (List ℕ) → List ℕ
line [] = ascii "\n"
line (w ∷ []) = w ++ ascii "\n"
line (w ∷ v ∷ ws) = w ++ (ascii " " ++ line (v ∷ ws))

-- a number behind a space
abbrev pub spaced : ℕ → List ℕ
spaced n = ascii " " ++ decimal n
