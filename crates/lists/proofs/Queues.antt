-- The laws of the loops over a queue, where what is left of its word gives the answer, and of a list with one more at its end.
use mathlib.Core.Path.{◌≡◌, refl, ap, sym, ◌∙◌, subst}
use mathlib.Core.Logic.{◌⊎◌, inl, inr, ◌≢◌}
use mathlib.Core.Bool.{Bool, true, false, cond, not}
use mathlib.Core.List.Memᴰ.{head as here}
use mathlib.Core.List.{List, [], ◌∷◌, ◌++◌, append-nil, Memᴰ as Mem}
use mathlib.Core.Option.{Option, none, some}
use Prim.Native.Nat.{ℕ, zero, suc, ◌+◌, ◌-◌, ◌/◌, ◌%◌, ◌≤◌, ◌<◌, max}
use native.Mathlib.Omega.{arith}
use borrow.Author.Tests.{lt-ltb, le-ltb, eq-eqb, ne_eqb}
use lib.Dec.{T, eqb, ltb, ltb→lt, nltb→le}
use lib.ListN.{length}
use Rattle.model.specs.Searches.{filter, better, first_greatest}
use Rattle.model.specs.Formed.{times}
use Rattle.model.proofs.Tests.{split, is_true, is_false, equal?}
use Rattle.lists.specs.Words.{nibble, with_nibble, nibbles}
use Rattle.lists.specs.Lists.{numbered, current_in}
use Rattle.lists.proofs.Holdings.{times_bound}
use Rattle.lists.proofs.Words.{read_set, read_other}

-- a turn takes the first of those that are left
pub first : (left rest : ℕ) → 0 < left → nibbles left rest ≡ rest % 16 ∷ nibbles (left - 1) (rest / 16)
first zero rest k = absurd (omega arith)
first (suc n) rest k = let e : n ≡ suc n - 1 = omega arith in ap (λ j. rest % 16 ∷ nibbles j (rest / 16)) e

pub ended : (left rest : ℕ) → left ≤ 0 → nibbles left rest ≡ []
ended zero rest k = refl
ended (suc n) rest k = absurd (omega arith)

-- the number that is taken in a turn is below sixteen
pub taken_small : (n w : ℕ) {t : ℕ} {r : List ℕ} → nibbles n w ≡ t ∷ r → t < 16
taken_small zero w e = cc
taken_small (suc n) w {t = t} e = let h : w % 16 ≡ t = cc in omega arith

pub length-nibbles : (n w : ℕ) → length (nibbles n w) ≡ n
length-nibbles zero w = refl
length-nibbles (suc n) w = ap suc (length-nibbles n (w / 16))

-- a loop that keeps one thread and its value: it gives way to the first of greatest value among those left, if that value is greater
module _ (f : ℕ → ℕ) where
  abbrev pub overtaken : (who top : ℕ) → Option ℕ → ℕ
  overtaken who top none = who
  overtaken who top (some b) = cond (ltb top (f b)) b who

  module _ (who top a : ℕ) where
    pub replaced : (o : Option ℕ) → top < f a → overtaken who top (some (better f a o)) ≡ overtaken a (f a) o
    replaced none k = rw (lt-ltb top (f a) k)
    replaced (some b) k = go (split (ltb (f a) (f b)))
      where
        go : T (ltb (f a) (f b)) ⊎ T (not (ltb (f a) (f b))) → overtaken who top (some (better f a (some b))) ≡ overtaken a (f a) (some b)
        go (inl x) = rw (is_true (ltb (f a) (f b)) x, lt-ltb top (f b) (omega (arith, ltb→lt (f a) (f b) x)))
        go (inr x) = rw (is_false (ltb (f a) (f b)) x, lt-ltb top (f a) k)

    pub stayed : (o : Option ℕ) → f a ≤ top → overtaken who top (some (better f a o)) ≡ overtaken who top o
    stayed none k = rw (le-ltb top (f a) k)
    stayed (some b) k = go (split (ltb (f a) (f b)))
      where
        go : T (ltb (f a) (f b)) ⊎ T (not (ltb (f a) (f b))) → overtaken who top (some (better f a (some b))) ≡ overtaken who top (some b)
        go (inl x) = rw (is_true (ltb (f a) (f b)) x)
        go (inr x) = rw (is_false (ltb (f a) (f b)) x, le-ltb top (f a) k, le-ltb top (f b) (omega (arith, nltb→le (f a) (f b) x)))

  -- nobody, with 0, gives way to anyone of a value above 0
  pub nobody : (l : List ℕ) → ((a : ℕ) → Mem a l → 0 < f a) → overtaken 255 0 (first_greatest f l) ≡ numbered (first_greatest f l)
  nobody [] k = refl
  nobody (a ∷ l) k = replaced 255 0 a (first_greatest f l) (k a (here refl)) ∙ go (first_greatest f l)
    where
      go : (o : Option ℕ) → overtaken a (f a) o ≡ better f a o
      go none = refl
      go (some b) = refl

-- a current priority is at least the base
pub base_current : (base : ℕ → ℕ) (owner urgency t : ℕ) → base t ≤ current_in base owner urgency t
base_current base owner urgency t = go (eqb owner t)
  where
    go : (b : Bool) → base t ≤ cond b (max (base t) urgency) (base t)
    go true = omega arith
    go false = omega arith

one_more : (x y n : ℕ) → x ≡ y + 1 → x + n ≡ y + suc n
one_more x y n e = omega (arith, e)

-- a loop that counts each number at its place of a word
pub marked : (w : ℕ) (l : List ℕ) (k t : ℕ) → nibble w k + 1 < 16
    → nibble (with_nibble w k (nibble w k + 1)) t + times (λ u. eqb u t) l ≡ nibble w t + times (λ u. eqb u t) (k ∷ l)
marked w l k t h = go (equal? k t)
  where
    go : (k ≡ t) ⊎ (k ≢ t) → nibble (with_nibble w k (nibble w k + 1)) t + times (λ u. eqb u t) l ≡ nibble w t + times (λ u. eqb u t) (k ∷ l)
    go (inl e) =
        subst (λ x. nibble (with_nibble w k (nibble w k + 1)) x + times (λ u. eqb u x) l ≡ nibble w x + times (λ u. eqb u x) (k ∷ l)) e
        (rw (eq-eqb k k refl) (one_more (nibble (with_nibble w k (nibble w k + 1)) k) (nibble w k) (times (λ u. eqb u k) l) (read_set w k (nibble w k + 1) h)))
    go (inr n) = rw (ne_eqb k t n) (ap (λ x. x + times (λ u. eqb u t) l) (read_other w k t (nibble w k + 1) h (λ e. n (sym e))))

pub times_within : (f : ℕ → Bool) (n w : ℕ) → times f (nibbles n w) ≤ n
times_within f n w = omega (arith, times_bound f (nibbles n w), length-nibbles n w)

module _ {A : Type 0} where
  filter-append : (f : A → Bool) (l m : List A) → filter f (l ++ m) ≡ filter f l ++ filter f m
  filter-append f [] m = refl
  filter-append f (b ∷ l) m = go (f b) (filter-append f l m)
    where
      go : (x : Bool) → filter f (l ++ m) ≡ filter f l ++ filter f m → cond x (b ∷ filter f (l ++ m)) (filter f (l ++ m)) ≡ cond x (b ∷ filter f l) (filter f l) ++ filter f m
      go true e = ap (λ k. b ∷ k) e
      go false e = e

  -- one more at the end that passes, or that does not
  pub filter-kept : (f : A → Bool) (l : List A) (a : A) → f a ≡ true → filter f (l ++ (a ∷ [])) ≡ filter f l ++ (a ∷ [])
  filter-kept f l a e = filter-append f l (a ∷ []) ∙ (rw e)

  pub filter_dropped : (f : A → Bool) (l : List A) (a : A) → f a ≡ false → filter f (l ++ (a ∷ [])) ≡ filter f l
  filter_dropped f l a e = filter-append f l (a ∷ []) ∙ (rw e (append-nil (filter f l)))
