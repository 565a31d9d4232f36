-- Numbers in two bytes, low byte first.
use mathlib.Core.Path.{◌≡◌, ap, ◌∙◌}
use mathlib.Core.List.{List, [], ◌∷◌, ◌++◌}
use Prim.Native.Nat.{ℕ, ◌+◌, ◌*◌, ◌/◌, ◌%◌, ◌<◌}
use native.Mathlib.Omega.{arith}
use lib.Dec.{T, ltb, lt→ltb}
use Rattle.model.specs.Searches.{all}
use Rattle.model.proofs.Tests.{and_both}
use Rattle.plan.specs.Words.{byte, word}
use Rattle.dump.specs.Layout.{two_bytes}

-- from a number to two bytes, and back: what stands behind them does not matter
pub two_bytes_lem : (n : ℕ) (rest : List ℕ) → n < 65536 → word (two_bytes n ++ rest) 0 ≡ n
two_bytes_lem n rest h = omega arith

-- from two bytes to a number, and back
pub bytes_two : (a b : ℕ) → a < 256 → b < 256 → two_bytes (a + 256 * b) ≡ a ∷ b ∷ []
bytes_two a b h g =
    let low : (a + 256 * b) % 256 ≡ a = omega arith in
    let high : (a + 256 * b) / 256 ≡ b = omega arith in
    ap (λ x. x ∷ (a + 256 * b) / 256 ∷ []) low ∙ ap (λ y. a ∷ y ∷ []) high

-- the two bytes are bytes
pub two_are_bytes : (n : ℕ) → n < 65536 → T (all (λ b. ltb b 256) (two_bytes n))
two_are_bytes n h =
    and_both (ltb (n % 256) 256) _ (lt→ltb (n % 256) 256 (omega arith)) (and_both (ltb (n / 256) 256) _ (lt→ltb (n / 256) 256 (omega arith)) tt)

-- at that place stands that number
pub record Stands (bytes : List ℕ) (place n : ℕ) : Type 0 where
  pub low : byte bytes place ≡ n % 256
  pub high : byte bytes (place + 1) ≡ n / 256

pub stands_word : {bytes : List ℕ} {place n : ℕ} → Stands bytes place n → word bytes place ≡ n
stands_word s = omega (arith, s.low, s.high)

pub word_stands : (bytes : List ℕ) (place : ℕ) → byte bytes place < 256 → Stands bytes place (word bytes place)
word_stands bytes place h = record { low = omega arith; high = omega arith }
