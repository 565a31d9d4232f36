-- The walk's result, and one comparison that gives it again where a hold begins.
use mathlib.Core.Path.{◌≡◌, refl, ap}
use mathlib.Core.Logic.{◌⊎◌, inl, inr}
use mathlib.Core.Bool.{not}
use mathlib.Core.List.{List, [], ◌∷◌, Memᴰ as Mem}
use mathlib.Core.Option.{some}
use Prim.Native.Nat.{ℕ}
use native.Mathlib.Omega.{arith}
use lib.Dec.{T, eqb, ltb, ltb→lt, nltb→le, eqb→eq, eqb_refl, not_T}
use Rattle.model.specs.Searches.{better, first_greatest, greatest, same}
use Rattle.model.specs.Plan.{Plan}
use Rattle.model.specs.State.{Hold, State}
use Rattle.model.specs.Priorities.{greatest_hold, owner}
use Rattle.model.proofs.Tests.{split, is_true, is_false, and_left, and_right, and_both, same_eq, same_refl}
use Rattle.model.proofs.Searches.{IsGreatest, greatest_is, greatest_ge, greatest_attained}
use Rattle.keeping.specs.Top.{Top, walk_by, walk, top_fits, gained}

-- the answer is not 12 exactly if the pair is the walk's result
module _ (p : Plan) (hs : List Hold) where
  pub fits_walk : (k : Top) → T (top_fits p hs k) → k ≡ walk p hs
  fits_walk k t =
      let w = walk p hs in
      let o = same_eq k.owner w.owner (and_left (same k.owner w.owner) (eqb k.ceiling w.ceiling) t) in
      let c = eqb→eq k.ceiling w.ceiling (and_right (same k.owner w.owner) (eqb k.ceiling w.ceiling) t) in
      λ i. record { owner = o i; ceiling = c i }

  pub walk_fits : T (top_fits p hs (walk p hs))
  walk_fits = let w = walk p hs in and_both (same w.owner w.owner) (eqb w.ceiling w.ceiling) (same_refl w.owner) (eqb_refl w.ceiling)

-- the first of greatest value has the greatest value
first_is_top : {A : Type 0} (f : A → ℕ) (l : List A) (a : A) → first_greatest f l ≡ some a → f a ≡ greatest f l
first_is_top f l a e = go (greatest_attained f l)
  where
    g : IsGreatest f l a
    g = greatest_is f l a e

    go : (greatest f l ≡ 0) ⊎ ((b : _) × Mem b l × (f b ≡ greatest f l)) → f a ≡ greatest f l
    go (inl z) = omega (arith, greatest_ge f l g.0)
    go (inr b) = omega (arith, greatest_ge f l g.0, g.1 b.0 b.1, b.2)

-- a hold more: one comparison, and on a tie the later one is the owner
pub gained_walk : (f : Hold → ℕ) (h : Hold) (hs : List Hold) → gained (f h) h.thread (walk_by f hs) ≡ walk_by f (h ∷ hs)
unfolding gained walk_by
gained_walk f h [] = rw (is_false (ltb (f h) 0) (not_T (ltb (f h) 0) (λ l. omega (arith, ltb→lt (f h) 0 l)))) (ap (λ (n : ℕ). record { owner = some h.thread; ceiling = n }) (omega arith))
gained_walk f h (g ∷ hs) = go (split (ltb (f h) (greatest f (g ∷ hs))))
  where
    o : Hold
    o = better f g (first_greatest f hs)

    top : f o ≡ greatest f (g ∷ hs)
    top = first_is_top f (g ∷ hs) o refl

    go : T (ltb (f h) (greatest f (g ∷ hs))) ⊎ T (not (ltb (f h) (greatest f (g ∷ hs)))) → gained (f h) h.thread (walk_by f (g ∷ hs)) ≡ walk_by f (h ∷ g ∷ hs)
    go (inl l) = rw (top, is_true (ltb (f h) (greatest f (g ∷ hs))) l) (ap (λ (n : ℕ). record { owner = some o.thread; ceiling = n }) (omega (arith, ltb→lt (f h) (greatest f (g ∷ hs)) l)))
    go (inr l) = rw (top, is_false (ltb (f h) (greatest f (g ∷ hs))) l) (ap (λ (n : ℕ). record { owner = some h.thread; ceiling = n }) (omega (arith, nltb→le (f h) (greatest f (g ∷ hs)) l)))

-- the walk's owner is the machine's
pub walk_owner : (p : Plan) (st : State) → (walk p st.holds).owner ≡ owner p st
unfolding walk_by greatest_hold
walk_owner p st = refl
