-- How many of a list pass a test, and lists in which each number stands once.
use mathlib.Core.Path.{◌≡◌, refl, sym, ◌∙◌}
use mathlib.Core.Logic.{◌⊎◌, inl, inr, ◌≢◌}
use mathlib.Core.Bool.{Bool, true, false, not, cond}
use mathlib.Core.List.Memᴰ.{head as here}
use mathlib.Core.List.Memᴰ.{tail as there}
use mathlib.Core.List.{List, [], ◌∷◌, Memᴰ as Mem}
use Prim.Native.Nat.{ℕ, zero, suc, ◌+◌, ◌≤◌, ◌<◌}
use native.Mathlib.Omega.{arith}
use lib.Dec.{T, eqb, eqb→eq}
use lib.ListN.{length}
use Rattle.model.specs.Searches.{filter}
use Rattle.model.specs.Formed.{times}
use Rattle.model.proofs.Tests.{split, is_true, is_false, eq_test, equal?}
use Rattle.model.proofs.Searches.{filtered, in_filter, Pairwise, Distinct}

-- one for a test that is passed
abbrev one : Bool → ℕ
one true = 1
one false = 0

module _ {A : Type 0} where
  some_in : (l : List A) → 0 < length l → (a : A) × Mem a l
  some_in [] h = absurd (omega arith)
  some_in (a ∷ l) h = (a, here refl)

  -- one that passes is counted, and one that is counted passes
  pub counted : (f : A → Bool) (l : List A) {a : A} → Mem a l → T (f a) → 0 < times f l
  counted f l {a} i t = go (filter f l) (in_filter f l i t)
    where
      go : (k : List A) → Mem a k → 0 < length k
      go [] j = elim j [ ]
      go (b ∷ k) j = omega arith

  pub found : (f : A → Bool) (l : List A) → 0 < times f l → (a : A) × Mem a l × T (f a)
  found f l h = let r = some_in (filter f l) h in let q = filtered f l r.1 in (r.0, q.0, q.1)

  times-cons : (f : A → Bool) (a : A) (l : List A) → times f (a ∷ l) ≡ one (f a) + times f l
  times-cons f a l = go (f a)
    where
      go : (b : Bool) → length (cond b (a ∷ filter f l) (filter f l)) ≡ one b + length (filter f l)
      go true = omega arith
      go false = omega arith

  -- those that pass and those that don't
  pub times_split : (f : A → Bool) (l : List A) → times f l + times (λ a. not (f a)) l ≡ length l
  times_split f [] = refl
  times_split f (a ∷ l) = omega (arith, times-cons f a l, times-cons (λ b. not (f b)) a l, either (f a), times_split f l)
    where
      either : (b : Bool) → one b + one (not b) ≡ 1
      either true = refl
      either false = refl

  -- two tests that nothing passes both, each stronger than a third
  pub times_both : (f g h : A → Bool) (l : List A) → ((a : A) → Mem a l → T (f a) → T (h a)) → ((a : A) → Mem a l → T (g a) → T (h a)) → ((a : A) → Mem a l → T (f a) → T (g a) → ⊥) → times f l + times g l ≤ times h l
  times_both f g h [] x y z = omega arith
  times_both f g h (a ∷ l) x y z =
      omega (arith, times-cons f a l, times-cons g a l, times-cons h a l, head (f a) (g a) (h a) (x a (here refl)) (y a (here refl)) (z a (here refl)), times_both f g h l (λ b m. x b (there m)) (λ b m. y b (there m)) (λ b m. z b (there m)))
    where
      head : (b c d : Bool) → (T b → T d) → (T c → T d) → (T b → T c → ⊥) → one b + one c ≤ one d
      head true true d i j k = absurd (k tt tt)
      head true false true i j k = omega arith
      head true false false i j k = absurd (i tt)
      head false true true i j k = omega arith
      head false true false i j k = absurd (j tt)
      head false false d i j k = omega arith

  pub times_more : (f g : A → Bool) (l : List A) → ((a : A) → Mem a l → T (f a) → T (g a)) → times f l ≤ times g l
  times_more f g l x = omega (arith, times_both f (λ a. false) g l x (λ a m t. absurd t) (λ a m t u. u))

  -- each number at most once, of a list whose entries have numbers: exactly if no two entries have the same
  module _ (key : A → ℕ) where
    abbrev pub Apart : A → A → Type 0
    Apart a b = key a ≢ key b

    abbrev of : ℕ → List A → ℕ
    of t l = times (λ a. eqb (key a) t) l

    more : (a : A) (l : List A) → of (key a) (a ∷ l) ≡ suc (of (key a) l)
    more a l = rw (is_true (eqb (key a) (key a)) (eq_test (key a) (key a) refl))

    fewer : (a : A) (l : List A) (t : ℕ) → of t l ≤ of t (a ∷ l)
    fewer a l t = go (eqb (key a) t)
      where
        rest : List A
        rest = filter (λ b. eqb (key b) t) l

        go : (b : Bool) → length rest ≤ length (cond b (a ∷ rest) rest)
        go true = omega arith
        go false = omega arith

    pub once_apart : (l : List A) → ((a : A) → Mem a l → of (key a) l ≤ 1) → Pairwise Apart l
    once_apart [] h = tt
    once_apart (a ∷ l) h = (
      λ b i e. omega (arith, h a (here refl), more a l, counted (λ c. eqb (key c) (key a)) l i (eq_test (key b) (key a) (sym e))),
      once_apart l (λ b i. omega (arith, h b (there i), fewer a l (key b))),
    )

    pub apart_once : (l : List A) → Pairwise Apart l → (t : ℕ) → of t l ≤ 1
    apart_once [] d t = omega arith
    apart_once (a ∷ l) d t = go (split (eqb (key a) t)) (apart_once l d.1 t)
      where
        none_left : key a ≡ t → of t l ≡ 0
        none_left e = zero_of (of t l) (λ h. let r = found (λ b. eqb (key b) t) l h in d.0 r.0 r.1 (e ∙ sym (eqb→eq (key r.0) t r.2)))
          where
            zero_of : (n : ℕ) → (0 < n → ⊥) → n ≡ 0
            zero_of zero h = refl
            zero_of (suc n) h = absurd (h (omega arith))

        go : T (eqb (key a) t) ⊎ T (not (eqb (key a) t)) → of t l ≤ 1 → of t (a ∷ l) ≤ 1
        go (inl y) k = rw (is_true (eqb (key a) t) y) (omega (arith, none_left (eqb→eq (key a) t y)))
        go (inr n) k = rw (is_false (eqb (key a) t) n) k

-- a test that only one number can pass without passing the other
pub times_but_one : (f g : ℕ → Bool) (c : ℕ) (l : List ℕ) → Distinct l → ((a : ℕ) → a ≢ c → T (f a) → T (g a)) → times f l ≤ suc (times g l)
times_but_one f g c [] d x = omega arith
times_but_one f g c (a ∷ l) d x = go (equal? a c) (times_but_one f g c l d.1 x)
  where
    head : (b e : Bool) → (T b → T e) → one b ≤ one e
    head true true i = omega arith
    head true false i = absurd (i tt)
    head false e i = omega arith

    most : (b : Bool) → one b ≤ 1
    most true = omega arith
    most false = omega arith

    go : (a ≡ c) ⊎ (a ≢ c) → times f l ≤ suc (times g l) → times f (a ∷ l) ≤ suc (times g (a ∷ l))
    go (inl e) ih = omega (arith, times-cons f a l, times-cons g a l, most (f a), times_more f g l (λ b m t. x b (λ q. d.0 b m (e ∙ sym q)) t))
    go (inr n) ih = omega (arith, times-cons f a l, times-cons g a l, head (f a) (g a) (x a n))
