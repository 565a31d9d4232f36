-- What holds of numbers packed in a word: what is read where one was set, and elsewhere.
use mathlib.Core.Path.{◌≡◌, refl, ap, sym, ◌∙◌}
use mathlib.Core.Logic.{◌≢◌}
use mathlib.Core.List.{◌∷◌, [], ◌++◌}
use Prim.Native.Nat.{ℕ, zero, suc, ◌+◌, ◌*◌, ◌/◌, ◌%◌, ◌^◌, ◌≤◌, ◌<◌}
use native.Mathlib.Nat.{mul_left_comm, add-mul, zero-div}
use native.Mathlib.Numerals.{add-one}
use native.Mathlib.Omega.{arith}
use lib.Pow.{shr-shr, shl_exact, pow-add, field, mod-mod-pow}
use Rattle.lists.specs.Words.{nibble, with_nibble, in_front, nibbles}

-- sixteen to a place is two to four times it
unit_next : (k : ℕ) → 2 ^ (4 * suc k) ≡ 16 * 2 ^ (4 * k)
unit_next k = let z : 4 * suc k ≡ 4 + 4 * k = omega arith in ap (λ n. 2 ^ n) z ∙ pow-add 2 4 (4 * k)

nibble_first : (w : ℕ) → nibble w 0 ≡ w % 16
nibble_first w = omega arith

-- the word 0 has 0 everywhere
pub zero_nibble : (k : ℕ) → nibble 0 k ≡ 0
zero_nibble k = ap (λ n. n % 16) (zero-div (2 ^ (4 * k)))

-- a place further on is a place of what is left behind the first number
pub nibble_next : (w k : ℕ) → nibble w (suc k) ≡ nibble (w / 16) k
nibble_next w k = let z : 4 + 4 * k ≡ 4 * suc k = omega arith in sym (ap (λ n. n % 16) (shr-shr w 4 (4 * k) ∙ ap (λ n. w / 2 ^ n) z))

-- a number at a further place, in its weight
next_weight : (d k : ℕ) → d * 2 ^ (4 * suc k) ≡ 16 * (d * 2 ^ (4 * k))
next_weight d k = ap (λ u. d * u) (unit_next k) ∙ mul_left_comm d 16 (2 ^ (4 * k))

-- words that have the same numbers everywhere are the same
pub same_word : (n w v : ℕ) → w < 2 ^ (4 * n) → v < 2 ^ (4 * n) → ((k : ℕ) → k < n → nibble w k ≡ nibble v k) → w ≡ v
same_word zero w v a b e = omega arith
same_word (suc n) w v a b e =
    let rest = same_word n (w / 16) (v / 16) (omega (arith, unit_next n)) (omega (arith, unit_next n)) (λ k h. sym (nibble_next w k) ∙ e (suc k) (omega arith) ∙ nibble_next v k) in
    omega (arith, rest, e 0 (omega arith), nibble_first w, nibble_first v)

-- a number stands within the word that it is read from
pub nibble_within : (w k : ℕ) → nibble w k * 2 ^ (4 * k) ≤ w
nibble_within w zero = omega arith
nibble_within w (suc k) = omega (arith, next_weight (nibble w (suc k)) k, ap (λ d. d * 2 ^ (4 * k)) (nibble_next w k), nibble_within (w / 16) k)

-- a number below sixteen at one of sixteen places is below the word's end, so that no shift to there loses a bit
pub exact : (d k : ℕ) → d < 16 → k < 16 → d * 2 ^ (4 * k) % 2 ^ 64 ≡ d * 2 ^ (4 * k)
exact d k h b = shl_exact 4 (4 * k) 64 h (omega arith)

-- a number grows by one where a one that is shifted to its place is added
pub one_more : (w k : ℕ) → k < 16 → w + 1 * 2 ^ (4 * k) % 2 ^ 64 ≡ with_nibble w k (nibble w k + 1)
one_more w k h = omega (arith, exact 1 k (omega arith) h, nibble_within w k, add-mul (nibble w k) 1 (2 ^ (4 * k)))

set_first : (w v : ℕ) → with_nibble w 0 v ≡ w / 16 * 16 + v
set_first w v = omega arith

-- setting at a further place leaves the first number alone
set_next : (w k v : ℕ) → with_nibble w (suc k) v ≡ with_nibble (w / 16) k v * 16 + w % 16
set_next w k v =
    omega
    (arith, next_weight (nibble w (suc k)) k, ap (λ d. d * 2 ^ (4 * k)) (nibble_next w k), next_weight v k, nibble_within (w / 16) k)

behind-set : (w k v : ℕ) → with_nibble w (suc k) v / 16 ≡ with_nibble (w / 16) k v
behind-set w k v = omega (arith, set_next w k v)

before_set : (w k v : ℕ) → with_nibble w (suc k) v % 16 ≡ w % 16
before_set w k v = omega (arith, set_next w k v)

-- what was set is read
pub read_set : (w k v : ℕ) → v < 16 → nibble (with_nibble w k v) k ≡ v
read_set w zero v h = omega (arith, set_first w v)
read_set w (suc k) v h = nibble_next (with_nibble w (suc k) v) k ∙ ap (λ x. nibble x k) (behind-set w k v) ∙ read_set (w / 16) k v h

-- and at any other place what was there before
pub read_other : (w k j v : ℕ) → v < 16 → j ≢ k → nibble (with_nibble w k v) j ≡ nibble w j
read_other w zero zero v h d = absurd (d refl)
read_other w zero (suc j) v h d =
    let z : with_nibble w 0 v / 16 ≡ w / 16 = omega (arith, set_first w v) in
    nibble_next (with_nibble w 0 v) j ∙ ap (λ x. nibble x j) z ∙ sym (nibble_next w j)
read_other w (suc k) zero v h d = nibble_first (with_nibble w (suc k) v) ∙ before_set w k v ∙ sym (nibble_first w)
read_other w (suc k) (suc j) v h d =
    nibble_next (with_nibble w (suc k) v) j ∙ ap (λ x. nibble x j) (behind-set w k v) ∙ read_other (w / 16) k j v h (λ e. d (ap suc e)) ∙ sym (nibble_next w j)

-- the first numbers, with one more
pub nibbles_more : (n w : ℕ) → nibbles (n + 1) w ≡ nibbles n w ++ (nibble w n ∷ [])
nibbles_more n w = rw add-one (go n w)
  where
    go : (n w : ℕ) → nibbles (suc n) w ≡ nibbles n w ++ (nibble w n ∷ [])
    go zero w = ap (λ d. d ∷ []) (sym (nibble_first w))
    go (suc n) w = ap (λ l. w % 16 ∷ l) (go n (w / 16) ∙ ap (λ d. nibbles n (w / 16) ++ (d ∷ [])) (sym (nibble_next w n)))

-- the numbers before a place stay where another is set there
pub first_kept : (n k w v : ℕ) → n ≤ k → nibbles n (with_nibble w k v) ≡ nibbles n w
first_kept zero k w v h = refl
first_kept (suc n) zero w v h = absurd (omega arith)
first_kept (suc n) (suc k) w v h = rw (before_set w k v, behind-set w k v, first_kept n k (w / 16) v (omega arith))

-- so one that is set behind the first n is one more of them
pub set-behind : (n w v : ℕ) → v < 16 → nibbles (n + 1) (with_nibble w n v) ≡ nibbles n w ++ (v ∷ [])
set-behind n w v h = nibbles_more n (with_nibble w n v) ∙ (rw (first_kept n n w v (omega arith), read_set w n v h))

-- the first n numbers are those of the lowest bits
low_bits : (n m w : ℕ) → n ≤ m → nibbles n (w % 2 ^ (4 * m)) ≡ nibbles n w
low_bits zero m w h = refl
low_bits (suc n) zero w h = absurd (omega arith)
low_bits (suc n) (suc m) w h = rw (first, rest, low_bits n m (w / 16) (omega arith))
  where
    z : 4 * suc m ≡ 4 * m + 4
    z = omega arith

    first : w % 2 ^ (4 * suc m) % 16 ≡ w % 16
    first = ap (λ k. w % 2 ^ k % 16) z ∙ mod-mod-pow w (4 * m) 4

    rest : w % 2 ^ (4 * suc m) / 16 ≡ w / 16 % 2 ^ (4 * m)
    rest = ap (λ k. w % 2 ^ k / 16) z ∙ field w (4 * m) 4

-- a number put in front, and the first n behind it
pub front_kept : (n w v : ℕ) → n < 16 → v < 16 → nibbles (n + 1) (in_front w v) ≡ v ∷ nibbles n w
front_kept n w v h k = rw (add-one, first, rest, low_bits n 15 w (omega arith))
  where
    first : in_front w v % 16 ≡ v
    first = omega arith

    rest : in_front w v / 16 ≡ w % 2 ^ 60
    rest = omega arith

-- a word stays one of sixteen numbers
set_bound : (m k w v : ℕ) → k < m → w < 2 ^ (4 * m) → v < 16 → with_nibble w k v < 2 ^ (4 * m)
set_bound zero k w v h b c = absurd (omega arith)
set_bound (suc m) zero w v h b c = omega (arith, set_first w v, unit_next m)
set_bound (suc m) (suc k) w v h b c = omega (arith, set_next w k v, unit_next m, set_bound m k (w / 16) v (omega arith) (omega (arith, unit_next m)) c)

pub set-fits : (w k v : ℕ) → k < 16 → w < 2 ^ 64 → v < 16 → with_nibble w k v < 2 ^ 64
set-fits w k v h b c = set_bound 16 k w v h b c
