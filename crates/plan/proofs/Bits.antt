-- Needs as bits: what question 4 says of the bits at S and above.
use mathlib.Core.Path.{◌≡◌, ap, sym, ◌∙◌}
use mathlib.Core.Logic.{◌⊎◌, inl, inr, ◌↔◌}
use mathlib.Core.Bool.{false, not}
use Prim.Native.Nat.{ℕ, zero, suc, ◌+◌, ◌*◌, ◌/◌, ◌%◌, ◌^◌, ◌≤◌, ◌<◌}
use native.Mathlib.Nat.{zero-div, div-eq_of_lt, div-lt_iff_lt-mul}
use native.Mathlib.Omega.{arith}
use borrow.Author.Tests.{lt-ltb, le-ltb, eq-eqb, ne_eqb, eqb-false}
use lib.Dec.{T, eqb, ltb, ltb→lt, lt→ltb, nltb→le}
use lib.Pow.{pow_pos, pow_mono, shr-shr}
use Rattle.model.specs.Plan.{bit}
use Rattle.model.proofs.Tests.{split}
use Rattle.plan.specs.Bytes.{needs_within}

pub no_bits : (s : ℕ) → bit 0 s ≡ false
unfolding bit
no_bits s = rw (zero-div (2 ^ s))

-- a shift to the right leaves nothing exactly of a number below that power
below_shift : (n s : ℕ) → n < 2 ^ s → n / 2 ^ s ≡ 0
below_shift n s h = div-eq_of_lt h

shift_below : (n s : ℕ) → n / 2 ^ s ≡ 0 → n < 2 ^ s
shift_below n s e =
    let b : n < 1 * 2 ^ s = (div-lt_iff_lt-mul (pow_pos s)).0 (omega arith) in
    omega arith

pub shifted_out : (n s : ℕ) → eqb (n / 2 ^ s) 0 ≡ ltb n (2 ^ s)
shifted_out n s = go (split (ltb n (2 ^ s)))
  where
    go : T (ltb n (2 ^ s)) ⊎ T (not (ltb n (2 ^ s))) → eqb (n / 2 ^ s) 0 ≡ ltb n (2 ^ s)
    go (inl t) =
        let h : n < 2 ^ s = ltb→lt n (2 ^ s) t in
        eq-eqb (n / 2 ^ s) 0 (below_shift n s h) ∙ sym (lt-ltb n (2 ^ s) h)
    go (inr t) =
        let h : 2 ^ s ≤ n = nltb→le n (2 ^ s) t in
        ne_eqb (n / 2 ^ s) 0 (λ e. omega (arith, shift_below n s e)) ∙ sym (le-ltb n (2 ^ s) h)

-- the bits of a shifted number
bit_shifted : (n s k : ℕ) → bit (n / 2 ^ s) k ≡ bit n (s + k)
unfolding bit
bit_shifted n s k = ap (λ q. eqb (q % 2) 1) (shr-shr n s k)

-- a number all of whose bits are zero is 0: its last bit is, and so are those of its half
all_zero : (most n : ℕ) → n ≤ most → ((k : ℕ) → bit n k ≡ false) → n ≡ 0
unfolding bit
all_zero zero n h f = omega arith
all_zero (suc most) n h f =
    let half : n / 2 ≡ 0 = all_zero most (n / 2) (omega arith) (λ k. bit_shifted n 1 k ∙ f (1 + k)) in
    let last = eqb-false (n / 2 ^ 0 % 2) 1 (f 0) in
    omega arith

-- question 4 in its own words: every needs bit at S or above is zero
pub within_bits : (s n : ℕ) → T (needs_within s n) ↔ ((k : ℕ) → s ≤ k → bit n k ≡ false)
unfolding bit
within_bits s n = (clear, below)
  where
    clear : T (needs_within s n) → (k : ℕ) → s ≤ k → bit n k ≡ false
    clear t k h = rw (below_shift n k (omega (arith, ltb→lt n (2 ^ s) t, pow_mono h)))

    below : ((k : ℕ) → s ≤ k → bit n k ≡ false) → T (needs_within s n)
    below f = lt→ltb n (2 ^ s) (shift_below n s (all_zero (n / 2 ^ s) (n / 2 ^ s) (omega arith) (λ k. bit_shifted n s k ∙ f (s + k) (omega arith))))
