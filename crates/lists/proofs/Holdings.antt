-- Laws of the loops over holds: a turn takes the first of what is left, so that what is left gives the answer, or with what is kept so far.
use mathlib.Core.Path.{◌≡◌, refl, ap, sym, ◌∙◌}
use mathlib.Core.Logic.{◌⊎◌, inl, inr, ◌≢◌}
use mathlib.Core.Bool.{Bool, true, false, cond, not, ◌&&◌, ◌||◌}
use mathlib.Core.List.{List, [], ◌∷◌, ◌++◌}
use mathlib.Core.Option.{Option, none, some, map}
use Prim.Native.Nat.{ℕ, zero, suc, ◌+◌, ◌-◌, ◌/◌, ◌%◌, ◌≤◌, ◌<◌}
use native.Mathlib.Omega.{arith}
use borrow.Author.Tests.{ne_eqb, lt-ltb, le-ltb}
use lib.Dec.{T, eqb, ltb, ltb→lt, nltb→le}
use lib.ListN.{length}
use Rattle.model.specs.Searches.{all, filter, better, first_greatest}
use Rattle.model.specs.State as state
use Rattle.model.specs.State.{hold}
use Rattle.model.specs.Formed.{times}
use Rattle.model.proofs.Tests.{split, is_true, is_false}
use Rattle.lists.specs.Words.{with_nibble, in_front, nibbles}
use Rattle.keeping.specs.Top.{Top, walk_by}
use Rattle.lists.specs.Lists.{held_in, top_of}
use Rattle.lists.proofs.Words.{set-behind, front_kept}

module _ {A : Type 0} where
  -- each passes one of two tests where those that fail the one pass the other
  pub all_others : (q f : A → Bool) (l : List A) → all (λ a. q a || f a) l ≡ all f (filter (λ a. not (q a)) l)
  all_others q f [] = refl
  all_others q f (a ∷ l) = go (q a) (all_others q f l)
    where
      go : (x : Bool) → all (λ a. q a || f a) l ≡ all f (filter (λ a. not (q a)) l) → (x || f a) && all (λ a. q a || f a) l ≡ all f (cond (not x) (a ∷ filter (λ a. not (q a)) l) (filter (λ a. not (q a)) l))
      go true e = e
      go false e = ap (λ r. f a && r) e

  -- all pass where each does
  pub all_pass : (f : A → Bool) (l : List A) → ((a : A) → f a ≡ true) → all f l ≡ true
  all_pass f [] e = refl
  all_pass f (a ∷ l) e = rw (e a) (all_pass f l e)

  -- no more pass than there are
  pub times_bound : (f : A → Bool) (l : List A) → times f l ≤ length l
  times_bound f [] = omega arith
  times_bound f (a ∷ l) = go (f a) (times_bound f l)
    where
      go : (x : Bool) → times f l ≤ length l → length (cond x (a ∷ filter f l) (filter f l)) ≤ suc (length l)
      go true e = omega arith
      go false e = omega arith

  -- where the first is the only one that passes a test, the others are the list behind it

  none_dropped : (f : A → Bool) (l : List A) → times f l ≤ 0 → filter (λ a. not (f a)) l ≡ l
  none_dropped f [] k = refl
  none_dropped f (a ∷ l) k = go (f a) k (none_dropped f l)
    where
      go : (x : Bool) → length (cond x (a ∷ filter f l) (filter f l)) ≤ 0 → (times f l ≤ 0 → filter (λ a. not (f a)) l ≡ l) → cond (not x) (a ∷ filter (λ a. not (f a)) l) (filter (λ a. not (f a)) l) ≡ a ∷ l
      go true h e = absurd (omega arith)
      go false h e = ap (λ r. a ∷ r) (e h)

  pub only_first : (f : A → Bool) (a : A) (l : List A) → f a ≡ true → times f (a ∷ l) ≤ 1 → filter (λ b. not (f b)) (a ∷ l) ≡ l
  only_first f a l e k = rw e (none_dropped f l (let z : times f (a ∷ l) ≡ suc (times f l) = rw e in omega arith))

  -- of the first two only the better one matters
  module _ (f : A → ℕ) (a b : A) (l : List A) where
    best_later : f a < f b → first_greatest f (a ∷ b ∷ l) ≡ first_greatest f (b ∷ l)
    best_later k = ap {B = Option A} some (go (first_greatest f l))
      where
        go : (o : Option A) → better f a (some (better f b o)) ≡ better f b o
        go none = rw (lt-ltb (f a) (f b) k)
        go (some c) = cases (split (ltb (f b) (f c)))
          where
            cases : T (ltb (f b) (f c)) ⊎ T (not (ltb (f b) (f c))) → better f a (some (better f b (some c))) ≡ better f b (some c)
            cases (inl x) = rw (is_true (ltb (f b) (f c)) x, lt-ltb (f a) (f c) (omega (arith, ltb→lt (f b) (f c) x)))
            cases (inr x) = rw (is_false (ltb (f b) (f c)) x, lt-ltb (f a) (f b) k)

    best_earlier : f b ≤ f a → first_greatest f (a ∷ b ∷ l) ≡ first_greatest f (a ∷ l)
    best_earlier k = ap {B = Option A} some (go (first_greatest f l))
      where
        go : (o : Option A) → better f a (some (better f b o)) ≡ better f a o
        go none = rw (le-ltb (f a) (f b) k)
        go (some c) = cases (split (ltb (f b) (f c)))
          where
            cases : T (ltb (f b) (f c)) ⊎ T (not (ltb (f b) (f c))) → better f a (some (better f b (some c))) ≡ better f a (some c)
            cases (inl x) = rw (is_true (ltb (f b) (f c)) x)
            cases (inr x) = rw (is_false (ltb (f b) (f c)) x, le-ltb (f a) (f b) k, le-ltb (f a) (f c) (omega (arith, nltb→le (f b) (f c) x)))

pub held-length : (n ss ts : ℕ) → length (held_in n ss ts) ≡ n
held-length zero ss ts = refl
held-length (suc n) ss ts = ap suc (held-length n (ss / 16) (ts / 16))

-- the hold that stands first in two words
abbrev pub first_hold : (sections threads : ℕ) → state.Hold
first_hold ss ts = hold (ss % 16) (ts % 16)

-- a thread's hold, and a hold of a section
abbrev pub is_of_thread : (thread : ℕ) → state.Hold → Bool
is_of_thread t h = eqb h.thread t

abbrev pub is_of_section : (section : ℕ) → state.Hold → Bool
is_of_section s h = eqb h.section s

-- whatever h makes of holds of which there is a first
module _ {ℓ} {R : Type ℓ} (h : List state.Hold → R) (n ss ts : ℕ) where
  pub turn : 0 < n → h (held_in n ss ts) ≡ h (first_hold ss ts ∷ held_in (n - 1) (ss / 16) (ts / 16))
  turn k = let z : n ≡ suc (n - 1) = omega arith in ap (λ m. h (held_in m ss ts)) z

-- the section and the thread that are taken in a turn are below sixteen
pub hold_small : (n ss ts : ℕ) {h : state.Hold} {r : List state.Hold} → held_in n ss ts ≡ h ∷ r → (h.section < 16) × (h.thread < 16)
hold_small zero ss ts e = cc
hold_small (suc n) ss ts {h = h} e =
    let z : hold (ss % 16) (ts % 16) ≡ h = cc in
    (omega (arith, ap (λ (k : state.Hold). k.section) z), omega (arith, ap (λ (k : state.Hold). k.thread) z))

-- of the first two holds only the one of greater ceiling matters, on a tie the first
module _ (f : state.Hold → ℕ) (a b : state.Hold) (l : List state.Hold) where
  pair_of : {o o' : Option state.Hold} {n n' : ℕ} → o ≡ o' → n ≡ n' → ◌≡◌ {A = Top} (record { owner = map (λ (h : state.Hold). h.thread) o; ceiling = n }) (record { owner = map (λ (h : state.Hold). h.thread) o'; ceiling = n' })
  pair_of e d i = record { owner = map (λ (h : state.Hold). h.thread) (e i); ceiling = d i }

  top_later : f a < f b → walk_by f (a ∷ b ∷ l) ≡ walk_by f (b ∷ l)
  unfolding walk_by
  top_later k = pair_of (best_later f a b l k) (omega arith)

  top_earlier : f b ≤ f a → walk_by f (a ∷ b ∷ l) ≡ walk_by f (a ∷ l)
  unfolding walk_by
  top_earlier k = pair_of (best_earlier f a b l k) (omega arith)

-- a loop that keeps the owner so far and its ceiling; a thread's number is below 255, which stands for none yet
module _ (f : state.Hold → ℕ) (l : List state.Hold) where
  abbrev pub TopLeft : (left : List state.Hold) (owner top : ℕ) → Type 0
  TopLeft left owner top =
      ((owner ≡ 255) × (top ≡ 0) × (walk_by f left ≡ walk_by f l))
      ⊎ ((h : state.Hold) × (h.thread ≡ owner) × (owner < 255) × (f h ≡ top) × (walk_by f (h ∷ left) ≡ walk_by f l))

  module _ (a : state.Hold) (left : List state.Hold) (owner top : ℕ) where
    pub top_new : a.thread < 255 → TopLeft (a ∷ left) owner top → (owner ≡ 255) ⊎ (top < f a) → TopLeft left a.thread (f a)
    top_new k (inl (w, z, e)) g = inr (a, refl, k, refl, e)
    top_new k (inr (h, w, b, v, e)) (inl g) = absurd (omega arith)
    top_new k (inr (h, w, b, v, e)) (inr g) = inr (a, refl, k, refl, sym (top_later f h a left (omega arith)) ∙ e)

    pub top_stays : TopLeft (a ∷ left) owner top → owner ≢ 255 → f a ≤ top → TopLeft left owner top
    top_stays (inl (w, z, e)) d g = absurd (d w)
    top_stays (inr (h, w, b, v, e)) d g = inr (h, w, b, v, sym (top_earlier f h a left (omega arith)) ∙ e)

  pub top_found : (owner top : ℕ) → TopLeft [] owner top → top_of (record { owner = owner; ceiling = top }) ≡ walk_by f l
  unfolding walk_by
  top_found owner top (inl (w, z, e)) = rw (w, z) e
  top_found owner top (inr (h, w, b, v, e)) =
      rw (ne_eqb owner 255 (λ z. omega arith), ← w, ← v) (ap (λ (c : ℕ). record { owner = some h.thread; ceiling = c }) (omega arith) ∙ e)

-- sections and threads, one hold for each two
abbrev pairs : (sections threads : List ℕ) → List state.Hold
pairs [] ts = []
pairs (s ∷ ss) [] = []
pairs (s ∷ ss) (t ∷ ts) = hold s t ∷ pairs ss ts

paired : (n ss ts : ℕ) → held_in n ss ts ≡ pairs (nibbles n ss) (nibbles n ts)
paired zero ss ts = refl
paired (suc n) ss ts = ap (λ l. first_hold ss ts ∷ l) (paired n (ss / 16) (ts / 16))

pairs_more : (n ss ts s t : ℕ) → pairs (nibbles n ss ++ (s ∷ [])) (nibbles n ts ++ (t ∷ [])) ≡ held_in n ss ts ++ (hold s t ∷ [])
pairs_more zero ss ts s t = refl
pairs_more (suc n) ss ts s t = ap (λ l. first_hold ss ts ∷ l) (pairs_more n (ss / 16) (ts / 16) s t)

-- one more hold in front of the first n, or behind them
module _ (n ss ts s t : ℕ) (h : s < 16) (k : t < 16) where
  pub hold_in_front : n < 16 → held_in (n + 1) (in_front ss s) (in_front ts t) ≡ hold s t ∷ held_in n ss ts
  hold_in_front b = paired (n + 1) (in_front ss s) (in_front ts t) ∙ (rw (front_kept n ss s b h, front_kept n ts t b k, paired n ss ts))

  pub hold_behind : held_in (n + 1) (with_nibble ss n s) (with_nibble ts n t) ≡ held_in n ss ts ++ (hold s t ∷ [])
  hold_behind = paired (n + 1) (with_nibble ss n s) (with_nibble ts n t) ∙ (rw (set-behind n ss s h, set-behind n ts t k) (pairs_more n ss ts s t))
