-- A loop that asks something of each record in turn and ends at the first No.
use mathlib.Core.Path.{◌≡◌, refl, ap, ◌∙◌}
use mathlib.Core.Bool.{Bool, true, false, ◌&&◌}
use mathlib.Core.List.{List, [], ◌∷◌, map, map-id}
use Prim.Native.Nat.{ℕ, ◌+◌, ◌≤◌, ◌<◌}
use native.Mathlib.Omega.{arith}
use Rattle.model.specs.Searches.{all, up_to}
use Rattle.model.proofs.Loops.{AllLeft, all_begin, passed, failed, all_passed}

module _ (asked : ℕ → Bool) (n : ℕ) where
  -- before record i: whether those that are left pass is whether all pass
  pub record Asking (i : ℕ) : Type 0 where
    pub within : i ≤ n
    pub left : AllLeft asked (λ k. k) n i

  pub asking : Asking 0
  asking = record { within = omega arith; left = all_begin asked (λ k. k) n }

  listed : all asked (map (λ k. k) (up_to n)) ≡ all asked (up_to n)
  listed = ap (all asked) (map-id (up_to n))

  module _ (i : ℕ) (a : Asking i) where
    pub passes : i < n → asked i ≡ true → Asking (i + 1)
    passes h e = record { within = omega arith; left = passed asked (λ k. k) n i h a.left e }

    pub fails : i < n → asked i ≡ false → false ≡ all asked (up_to n)
    fails h e = failed asked (λ k. k) n i h a.left e ∙ listed

    pub all_pass : n ≤ i → true ≡ all asked (up_to n)
    all_pass h = all_passed asked (λ k. k) n i h a.left ∙ listed

-- two things asked of each at once are both asked of all
pub both : (f g : ℕ → Bool) (l : List ℕ) → all (λ i. f i && g i) l ≡ all f l && all g l
both f g [] = refl
both f g (a ∷ l) = ap (λ b. (f a && g a) && b) (both f g l) ∙ apart (f a) (g a) (all f l) (all g l)
  where
    apart : (a b c d : Bool) → (a && b) && (c && d) ≡ (a && c) && (b && d)
    apart true true c d = refl
    apart true false true d = refl
    apart true false false d = refl
    apart false b c d = refl
