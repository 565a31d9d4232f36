-- What the searches over lists find.
use mathlib.Core.Path.{◌≡◌, refl, ap, sym, subst, ◌∙◌}
use mathlib.Core.Logic.{◌⊎◌, inl, inr, ◌≢◌}
use mathlib.Core.Bool.{Bool, true, false, cond, not, ◌&&◌, ◌||◌}
use mathlib.Core.List.Memᴰ.{append_cases}
use mathlib.Core.List.Memᴰ.{cases_cons}
use mathlib.Core.List.Memᴰ.{cast}
use mathlib.Core.List.Memᴰ.{head as here}
use mathlib.Core.List.Memᴰ.{tail as there}
use mathlib.Core.List.{List, [], ◌∷◌, ◌++◌, Memᴰ as Mem}
use mathlib.Core.Option.{Option, none, some, none-ne-some, some-ne-none, some-injective}
use Prim.Native.Nat.{ℕ, zero, suc, ◌+◌, ◌≤◌, ◌<◌}
use native.Mathlib.Omega.{arith}
use lib.Dec.{T, ltb, eqb, ltb→lt, nltb→le}
use lib.ListN.{length}
use Rattle.model.specs.Searches.{all, any, filter, better, first_greatest, greatest, count_from, up_to, without}
use Rattle.model.proofs.Tests.{split, is_true, is_false, from_true, from_false, and_left, and_right, and_both, or_left, or_right, nor_left, nor_right, not_not_in, eq_test, ne_test, test_ne, equal?}

module _ {A : Type 0} where
  pub all_at : (f : A → Bool) (l : List A) → T (all f l) → {a : A} → Mem a l → T (f a)
  all_at f [] t {a = a} x'' = elim x'' [ ]
  all_at f (b ∷ l) t (here e) = subst (λ x. T (f x)) (sym e) (and_left (f b) (all f l) t)
  all_at f (b ∷ l) t (there m) = all_at f l (and_right (f b) (all f l) t) m

  -- what passes at each member passes for all
  pub all_in : (f : A → Bool) (l : List A) → ((a : A) → Mem a l → T (f a)) → T (all f l)
  all_in f [] h = tt
  all_in f (a ∷ l) h = and_both (f a) (all f l) (h a (here refl)) (all_in f l (λ b i. h b (there i)))

  -- one test follows from another
  pub all_from : (f g : A → Bool) → ((a : A) → T (f a) → T (g a)) → (l : List A) → T (all f l) → T (all g l)
  all_from f g k [] t = tt
  all_from f g k (a ∷ l) t = and_both (g a) (all g l) (k a (and_left (f a) (all f l) t)) (all_from f g k l (and_right (f a) (all f l) t))

  pub all_append : (f : A → Bool) (a b : List A) → T (all f a) → T (all f b) → T (all f (a ++ b))
  all_append f [] b t u = u
  all_append f (d ∷ a) b t u = and_both (f d) (all f (a ++ b)) (and_left (f d) (all f a) t) (all_append f a b (and_right (f d) (all f a) t) u)

  pub all_fails : (f : A → Bool) (l : List A) → T (not (all f l)) → (a : A) × Mem a l × T (not (f a))
  all_fails f [] t = absurd t
  all_fails f (b ∷ l) t = go (f b) refl t (λ u. all_fails f l u)
    where
      go : (x : Bool) → f b ≡ x → T (not (x && all f l)) → (T (not (all f l)) → (a : A) × Mem a l × T (not (f a))) → (a : A) × Mem a (b ∷ l) × T (not (f a))
      go true e u k = let r = k u in (r.0, there r.1, r.2)
      go false e u k = (b, here refl, from_false (f b) e)

  pub any_at : (f : A → Bool) (l : List A) {a : A} → Mem a l → T (f a) → T (any f l)
  any_at f [] {a = a} x'' t = elim x'' [ ]
  any_at f (b ∷ l) (here e) t = or_left (f b) (any f l) (subst (λ x. T (f x)) e t)
  any_at f (b ∷ l) (there m) t = or_right (f b) (any f l) (any_at f l m t)

  pub any_finds : (f : A → Bool) (l : List A) → T (any f l) → (a : A) × Mem a l × T (f a)
  any_finds f [] t = absurd t
  any_finds f (b ∷ l) t = go (f b) refl t (λ u. any_finds f l u)
    where
      go : (x : Bool) → f b ≡ x → T (x || any f l) → (T (any f l) → (a : A) × Mem a l × T (f a)) → (a : A) × Mem a (b ∷ l) × T (f a)
      go true e u k = (b, here refl, from_true (f b) e)
      go false e u k = let r = k u in (r.0, there r.1, r.2)

  pub any_fails : (f : A → Bool) (l : List A) → T (not (any f l)) → {a : A} → Mem a l → T (not (f a))
  any_fails f [] t {a = a} x'' = elim x'' [ ]
  any_fails f (b ∷ l) t (here e) = subst (λ x. T (not (f x))) (sym e) (nor_left (f b) (any f l) t)
  any_fails f (b ∷ l) t (there m) = any_fails f l (nor_right (f b) (any f l) t) m

  pub filtered : (f : A → Bool) (l : List A) {a : A} → Mem a (filter f l) → Mem a l × T (f a)
  filtered f [] m = elim m [ ]
  filtered f (b ∷ l) {a} m = go (f b) refl m (λ n. filtered f l n)
    where
      go : (x : Bool) → f b ≡ x → Mem a (cond x (b ∷ filter f l) (filter f l)) → (Mem a (filter f l) → Mem a l × T (f a)) → Mem a (b ∷ l) × T (f a)
      go true e (here q) k = (here q, from_true (f a) (ap f q ∙ e))
      go true e (there n) k = let r = k n in (there r.0, r.1)
      go false e n k = let r = k n in (there r.0, r.1)

  pub in_filter : (f : A → Bool) (l : List A) {a : A} → Mem a l → T (f a) → Mem a (filter f l)
  in_filter f [] {a = a} x'' t = elim x'' [ ]
  in_filter f (b ∷ l) {a} (here q) t = rw (is_true (f b) (subst (λ x. T (f x)) q t)) (here q)
  in_filter f (b ∷ l) {a} (there m) t = go (f b) (in_filter f l m t)
    where
      go : (x : Bool) → Mem a (filter f l) → Mem a (cond x (b ∷ filter f l) (filter f l))
      go true n = there n
      go false n = n

  pub filter_all : (f : A → Bool) (l : List A) → ((a : A) → Mem a l → T (f a)) → filter f l ≡ l
  filter_all f [] g = refl
  filter_all f (a ∷ l) g = rw (is_true (f a) (g a (here refl)), filter_all f l (λ b m. g b (there m)))

  pub filter-append : (f : A → Bool) (l m : List A) → filter f (l ++ m) ≡ filter f l ++ filter f m
  filter-append f [] m = refl
  filter-append f (a ∷ l) m = go (f a) (filter-append f l m)
    where
      go : (x : Bool) → filter f (l ++ m) ≡ filter f l ++ filter f m → cond x (a ∷ filter f (l ++ m)) (filter f (l ++ m)) ≡ cond x (a ∷ filter f l) (filter f l) ++ filter f m
      go true e = ap {B = List A} (λ k. a ∷ k) e
      go false e = e

  better_cases : (f : A → ℕ) (a b : A) → ((better f a (some b) ≡ b) × (f a < f b)) ⊎ ((better f a (some b) ≡ a) × (f b ≤ f a))
  better_cases f a b = go (split (ltb (f a) (f b)))
    where
      go : T (ltb (f a) (f b)) ⊎ T (not (ltb (f a) (f b))) → ((better f a (some b) ≡ b) × (f a < f b)) ⊎ ((better f a (some b) ≡ a) × (f b ≤ f a))
      go (inl t) = inl (rw (is_true (ltb (f a) (f b)) t), ltb→lt (f a) (f b) t)
      go (inr t) = inr (rw (is_false (ltb (f a) (f b)) t), nltb→le (f a) (f b) t)

  pub greatest_none : (f : A → ℕ) (l : List A) → first_greatest f l ≡ none → {a : A} → Mem a l → ⊥
  greatest_none f [] e m = elim m [ ]
  greatest_none f (b ∷ l) e m = some-ne-none (better f b (first_greatest f l)) e

  pub greatest_some : (f : A → ℕ) (l : List A) {a : A} → Mem a l → (b : A) × (first_greatest f l ≡ some b)
  greatest_some f [] {a = a} m = elim m [ ]
  greatest_some f (b ∷ l) m = (better f b (first_greatest f l), refl)

  -- one of the list, and none of it has a greater value
  abbrev pub IsGreatest : (A → ℕ) → List A → A → Type 0
  IsGreatest f l a = Mem a l × ((b : A) → Mem b l → f b ≤ f a)

  pub greatest_is : (f : A → ℕ) (l : List A) (a : A) → first_greatest f l ≡ some a → IsGreatest f l a
  greatest_is f [] a e = absurd (none-ne-some a e)
  greatest_is f (b ∷ l) a e = go (first_greatest f l) refl (some-injective (better f b (first_greatest f l)) a e) (λ c q. greatest_is f l c q)
    where
      above : (a ≡ b) ⊎ Mem a l → f b ≤ f a → ((d : A) → Mem d l → f d ≤ f a) → IsGreatest f (b ∷ l) a
      above m h k = (pick m, λ d n. low d (cases_cons n))
        where
          pick : (a ≡ b) ⊎ Mem a l → Mem a (b ∷ l)
          pick (inl q) = here q
          pick (inr n) = there n

          low : (d : A) → (d ≡ b) ⊎ Mem d l → f d ≤ f a
          low d (inl i) = omega (arith, ap f i)
          low d (inr n) = k d n

      go : (o : Option A) → first_greatest f l ≡ o → better f b o ≡ a → ((c : A) → first_greatest f l ≡ some c → IsGreatest f l c) → IsGreatest f (b ∷ l) a
      go none q i k = above (inl (sym i)) (omega (arith, ap f i)) (λ d m. absurd (greatest_none f l q m))
      go (some c) q i k = cases (better_cases f b c)
        where
          r : IsGreatest f l c
          r = k c q

          cases : ((better f b (some c) ≡ c) × (f b < f c)) ⊎ ((better f b (some c) ≡ b) × (f c ≤ f b)) → IsGreatest f (b ∷ l) a
          cases (inl h) = let z : a ≡ c = sym i ∙ h.0 in above (inr (cast z r.0)) (omega (arith, h.1, ap f z)) (λ d m. omega (arith, r.1 d m, ap f z))
          cases (inr h) = let z : a ≡ b = sym i ∙ h.0 in above (inl z) (omega (arith, ap f z)) (λ d m. omega (arith, r.1 d m, h.1, ap f z))

  pub greatest_ge : (f : A → ℕ) (l : List A) {a : A} → Mem a l → f a ≤ greatest f l
  greatest_ge f [] {a = a} x' = elim x' [ ]
  greatest_ge f (b ∷ l) (here e) = omega (arith, ap f e)
  greatest_ge f (b ∷ l) (there m) = omega (arith, greatest_ge f l m)

  -- the greatest value is 0 or that of one of the list
  pub greatest_attained : (f : A → ℕ) (l : List A) → (greatest f l ≡ 0) ⊎ ((a : A) × Mem a l × (f a ≡ greatest f l))
  greatest_attained f [] = inl refl
  greatest_attained f (b ∷ l) = go (split (ltb (f b) (greatest f l))) (greatest_attained f l)
    where
      go : T (ltb (f b) (greatest f l)) ⊎ T (not (ltb (f b) (greatest f l))) → (greatest f l ≡ 0) ⊎ ((a : A) × Mem a l × (f a ≡ greatest f l)) → (greatest f (b ∷ l) ≡ 0) ⊎ ((a : A) × Mem a (b ∷ l) × (f a ≡ greatest f (b ∷ l)))
      go (inl t) (inl e) = absurd (omega (arith, ltb→lt (f b) (greatest f l) t))
      go (inl t) (inr k) = inr (k.0, there k.1, omega (arith, k.2, ltb→lt (f b) (greatest f l) t))
      go (inr t) k = inr (b, here refl, omega (arith, nltb→le (f b) (greatest f l) t))

  -- R holds of each with each that stands after it
  abbrev pub Pairwise : (A → A → Type 0) → List A → Type 0
  Pairwise R [] = Unit {0}
  Pairwise R (a ∷ l) = ((b : A) → Mem b l → R a b) × Pairwise R l

  pub pairwise_filter : (R : A → A → Type 0) (f : A → Bool) (l : List A) → Pairwise R l → Pairwise R (filter f l)
  pairwise_filter R f [] h = tt
  pairwise_filter R f (a ∷ l) h = go (f a) (pairwise_filter R f l h.1)
    where
      go : (x : Bool) → Pairwise R (filter f l) → Pairwise R (cond x (a ∷ filter f l) (filter f l))
      go true k = (λ b m. h.0 b (filtered f l m).0, k)
      go false k = k

  pub pairwise_append : (R : A → A → Type 0) (l m : List A) → Pairwise R l → Pairwise R m → ((a b : A) → Mem a l → Mem b m → R a b) → Pairwise R (l ++ m)
  pairwise_append R [] m h k x = k
  pairwise_append R (a ∷ l) m h k x = (λ b n. low b (append_cases l n), pairwise_append R l m h.1 k (λ c d i j. x c d (there i) j))
    where
      low : (b : A) → Mem b l ⊎ Mem b m → R a b
      low b (inl n) = h.0 b n
      low b (inr n) = x a b (here refl) n

  pub pairwise_at : (R : A → A → Type 0) (l : List A) → Pairwise R l → (a b : A) → Mem a l → Mem b l → (a ≡ b) ⊎ (R a b ⊎ R b a)
  pairwise_at R [] h a b x3 _ = elim x3 [ ]
  pairwise_at R (c ∷ l) h a b (here e) (here f) = inl (e ∙ sym f)
  pairwise_at R (c ∷ l) h a b (here e) (there n) = inr (inl (rw e (h.0 b n)))
  pairwise_at R (c ∷ l) h a b (there m) (here f) = inr (inr (rw f (h.0 a m)))
  pairwise_at R (c ∷ l) h a b (there m) (there n) = pairwise_at R l h.1 a b m n

-- no number is listed twice
abbrev pub Distinct : List ℕ → Type 0
Distinct l = Pairwise (λ (a b : ℕ). a ≢ b) l

pub stays : (x : ℕ) (l : List ℕ) {t : ℕ} → Mem t l → t ≢ x → Mem t (without x l)
stays x l {t} m d = in_filter (λ u. not (eqb u x)) l m (ne_test t x d)

pub stayed : (x : ℕ) (l : List ℕ) {t : ℕ} → Mem t (without x l) → Mem t l × (t ≢ x)
stayed x l {t} m = let k = filtered (λ u. not (eqb u x)) l m in (k.0, test_ne t x k.1)

pub without_absent : (x : ℕ) (l : List ℕ) → (Mem x l → ⊥) → without x l ≡ l
without_absent x l f = filter_all (λ u. not (eqb u x)) l (λ u m. ne_test u x (λ e. f (cast (sym e) m)))

pub distinct_without : (x : ℕ) (l : List ℕ) → Distinct l → Distinct (without x l)
distinct_without x l h = pairwise_filter (λ (a b : ℕ). a ≢ b) (λ u. not (eqb u x)) l h

count_at : (i n : ℕ) {t : ℕ} → Mem t (count_from i n) → (i ≤ t) × (t < i + n)
count_at i zero m = elim m [ ]
count_at i (suc n) (here e) = (omega arith, omega arith)
count_at i (suc n) (there m) = let r = count_at (suc i) n m in (omega (arith, r.0), omega (arith, r.1))

in_count : (i n t : ℕ) → i ≤ t → t < i + n → Mem t (count_from i n)
in_count i zero t h k = absurd (omega arith)
in_count i (suc n) t h k = go (equal? t i) (λ d. in_count (suc i) n t (omega arith) (omega arith))
  where
    go : (t ≡ i) ⊎ (t ≢ i) → (t ≢ i → Mem t (count_from (suc i) n)) → Mem t (count_from i (suc n))
    go (inl e) f = here e
    go (inr d) f = there (f d)

count_distinct : (i n : ℕ) → Distinct (count_from i n)
count_distinct i zero = tt
count_distinct i (suc n) = (λ b m e. omega (arith, (count_at (suc i) n m).0), count_distinct (suc i) n)

-- the numbers below n are just these, each once
pub up_to_at : (n : ℕ) {t : ℕ} → Mem t (up_to n) → t < n
up_to_at n m = omega (arith, (count_at 0 n m).1)

pub in_up_to : (n t : ℕ) → t < n → Mem t (up_to n)
in_up_to n t h = in_count 0 n t (omega arith) (omega arith)

pub up_to_distinct : (n : ℕ) → Distinct (up_to n)
up_to_distinct n = count_distinct 0 n

-- a list without repeats, of numbers below n, is no longer than n
without_fewer : (n : ℕ) (l : List ℕ) → Distinct l → length l ≤ suc (length (without n l))
without_fewer n [] h = omega arith
without_fewer n (a ∷ l) h = go (equal? a n) (without_fewer n l h.1)
  where
    go : (a ≡ n) ⊎ (a ≢ n) → length l ≤ suc (length (without n l)) → suc (length l) ≤ suc (length (without n (a ∷ l)))
    go (inl e) ih = rw (is_false (not (eqb a n)) (not_not_in (eqb a n) (eq_test a n e))) (omega (arith, ap length (without_absent n l (λ m. h.0 n m e))))
    go (inr d) ih = rw (is_true (not (eqb a n)) (ne_test a n d)) (omega arith)

pub pigeonhole : (n : ℕ) (l : List ℕ) → Distinct l → ((a : ℕ) → Mem a l → a < n) → length l ≤ n
pigeonhole zero [] h f = omega arith
pigeonhole zero (a ∷ l) h f = absurd (omega (arith, f a (here refl)))
pigeonhole (suc n) l h f = omega (arith, without_fewer n l h, pigeonhole n (without n l) (distinct_without n l h) (λ a m. let r = stayed n l m in omega (arith, f a r.0, r.1)))

-- searches by functions that agree on the list

module _ {A : Type 0} where
  pub any_agree : (f g : A → Bool) (l : List A) → ((a : A) → Mem a l → f a ≡ g a) → any f l ≡ any g l
  any_agree f g [] h = refl
  any_agree f g (a ∷ l) h = rw (h a (here refl), any_agree f g l (λ b i. h b (there i)))

  pub filter_agree : (f g : A → Bool) (l : List A) → ((a : A) → Mem a l → f a ≡ g a) → filter f l ≡ filter g l
  filter_agree f g [] h = refl
  filter_agree f g (a ∷ l) h = rw (h a (here refl), filter_agree f g l (λ b i. h b (there i)))

  pub first_greatest_agree : (f g : A → ℕ) (l : List A) → ((a : A) → Mem a l → f a ≡ g a) → first_greatest f l ≡ first_greatest g l
  first_greatest_agree f g [] h = refl
  first_greatest_agree f g (a ∷ l) h = rw (first_greatest_agree f g l (λ b i. h b (there i))) (ap {B = Option A} some (go (first_greatest g l) refl))
    where
      go : (o : Option A) → first_greatest g l ≡ o → better f a o ≡ better g a o
      go none e = refl
      go (some b) e = rw (h a (here refl), h b (there (greatest_is g l b e).0))

  pub greatest_agree : (f g : A → ℕ) (l : List A) → ((a : A) → Mem a l → f a ≡ g a) → greatest f l ≡ greatest g l
  greatest_agree f g [] h = refl
  greatest_agree f g (a ∷ l) h = rw (h a (here refl), greatest_agree f g l (λ b i. h b (there i)))
