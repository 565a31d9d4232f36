-- The decimal digits of a number by those of its tenth, without the bound that its definition needs to end.
use mathlib.Core.Path.{◌≡◌, refl, ap}
use mathlib.Core.Bool.{Bool, true, false, cond}
use mathlib.Core.List.{[], ◌∷◌, ◌++◌}
use Prim.Native.Nat.{ℕ, zero, suc, ◌/◌, ◌%◌, ◌<◌}
use native.Mathlib.Omega.{arith}
use borrow.Author.Tests.{ltb-false}
use lib.Dec.{ltb}
use Rattle.streams.specs.Text.{digit, decimal_within, decimal}

enough : (d e n : ℕ) → n < d → n < e → decimal_within d n ≡ decimal_within e n
enough zero e n h k = absurd (omega arith)
enough (suc d) zero n h k = absurd (omega arith)
enough (suc d) (suc e) n h k = go (ltb n 10) refl (enough d e (n / 10))
  where
    go : (x : Bool) → ltb n 10 ≡ x → (n / 10 < d → n / 10 < e → decimal_within d (n / 10) ≡ decimal_within e (n / 10))
        → cond x (digit n ∷ []) (decimal_within d (n / 10) ++ digit (n % 10) ∷ []) ≡ cond x (digit n ∷ []) (decimal_within e (n / 10) ++ digit (n % 10) ∷ [])
    go true q ih = refl
    go false q ih = let ten = ltb-false n 10 q in ap (λ l. l ++ digit (n % 10) ∷ []) (ih (omega arith) (omega arith))

pub decimal_by_tenth : (n : ℕ) → decimal n ≡ cond (ltb n 10) (digit n ∷ []) (decimal (n / 10) ++ digit (n % 10) ∷ [])
unfolding decimal
decimal_by_tenth n = go (ltb n 10) refl
  where
    go : (x : Bool) → ltb n 10 ≡ x → cond x (digit n ∷ []) (decimal_within n (n / 10) ++ digit (n % 10) ∷ []) ≡ cond x (digit n ∷ []) (decimal_within (suc (n / 10)) (n / 10) ++ digit (n % 10) ∷ [])
    go true q = refl
    go false q = let ten = ltb-false n 10 q in ap (λ l. l ++ digit (n % 10) ∷ []) (enough n (suc (n / 10)) (n / 10) (omega arith) (omega arith))
