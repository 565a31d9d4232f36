-- The decimal digits that std writes are those of this crate's definition.
use Rattle.std.proofs.Common.{◌≡◌, ℕ, List, [], ◌∷◌, ◌++◌, ◌+◌, ◌%◌, ◌/◌, ◌^◌, ◌≤◌, ◌<◌, arith}
use Rattle.std.proofs.lemmas.Bool.Decides.{nat_tests}
use Rattle.std.proofs.lemmas.Fmt.{decimal_by_steps}
use Rattle.std.specs.Fmt.{decimal}
use Rattle.streams.specs.Text.{decimal as own}
use Rattle.streams.proofs.Decimal.{decimal_by_tenth}

one : (n : ℕ) → n < 10 → (48 + n) ∷ [] ≡ own n
one n h = grind (arith, nat_tests, decimal_by_tenth n)

more : (n : ℕ) (digits : List ℕ) → 10 ≤ n → digits ≡ own (n / 10) → digits ++ (48 + n % 10) ∷ [] ≡ own n
more n digits h e = grind (arith, nat_tests, decimal_by_tenth n)

pub own_decimal : (n : ℕ) → n < 2 ^ 64 → decimal n ≡ own n
own_decimal n h = decimal_by_steps (λ m digits. digits ≡ own m) one more n h
