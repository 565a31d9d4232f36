-- Where each thread stands, read from whole words: a condition's lowest bit says that the thread is ready or waits, the next one that it waits or sleeps.
use mathlib.Core.Path.{◌≡◌, refl, ap, ap₂, sym, ◌∙◌}
use mathlib.Core.Logic.{◌⊎◌, inl, inr}
use mathlib.Core.Bool.{Bool, true, cond, not, ◌&&◌, ◌||◌}
use mathlib.Core.List.{List}
use Prim.Native.Nat.{ℕ, zero, suc, ◌+◌, ◌*◌, ◌/◌, ◌%◌, ◌^◌, ◌≤◌, ◌<◌}
use native.Mathlib.Omega.{arith}
use borrow.Author.Tests.{le-leb, eq-eqb}
use lib.Dec.{T, eqb, leb, leb→le, eqb→eq, T_not}
use lib.Bits.{bit_and, and_mask, and_shr, and_mod, and_le_l, and_le_r}
use lib.Pow.{shr-shr}
use Rattle.model.specs.Searches.{all, up_to}
use Rattle.model.specs.Formed.{times}
use Rattle.model.proofs.Tests.{is_true, is_false, from_true, not_not, split, and_left, and_right, and_both}
use Rattle.model.proofs.Searches.{all_at, all_fails, up_to_at, in_up_to}
use Rattle.lists.specs.Words.{nibble}
use Rattle.lists.proofs.Laws.{zero_nibble, same_word}
use Rattle.formed.specs.Clauses.{names_by, stands_by, all_stand, standing}

-- the bits of a word that stand in another, number by number
nibble_and : (a b t : ℕ) → nibble (bit_and a b) t ≡ bit_and (nibble a t) (nibble b t)
nibble_and a b t = ap (λ x. x % 16) (and_shr a b (4 * t)) ∙ and_mod (a / 2 ^ (4 * t)) (b / 2 ^ (4 * t)) 4

-- the second bit of a number is the lowest of the half
nibble_half : (a t : ℕ) → nibble (a / 2) t % 2 ≡ nibble a t / 2 % 2
nibble_half a t =
    let e : a / 2 / 2 ^ (4 * t) ≡ a / 2 ^ (4 * t) / 2 = shr-shr a 1 (4 * t) ∙ ap (λ n. a / 2 ^ n) (omega arith) ∙ sym (shr-shr a (4 * t) 1) in
    ap (λ x. x % 16 % 2) e ∙ omega arith

-- a word with one number at all its places
everywhere : (w v : ℕ) → T (all (λ t. eqb (nibble w t) v) (up_to 16)) → (t : ℕ) → t < 16 → T (eqb (nibble w t) v)
everywhere w v a t h = all_at (λ t. eqb (nibble w t) v) (up_to 16) a (in_up_to 16 t h)

-- a number without its two highest bits is a condition's
low : (s : ℕ) → s < 16 → bit_and s 12 ≡ 0 → s ≤ 3
low s h e = go (split (leb s 3)) (all_at (λ k. leb k 3 || not (eqb (bit_and k 12) 0)) (up_to 16) tt (in_up_to 16 s h))
  where
    go : T (leb s 3) ⊎ T (not (leb s 3)) → T (leb s 3 || not (eqb (bit_and s 12) 0)) → s ≤ 3
    go (inl a) t = leb→le s 3 a
    go (inr b) t = absurd (rw (is_false (leb s 3) b, eq-eqb (bit_and s 12) 0 e) at t)

-- a test that every number passes below the greater of two bounds, all below the lesser one pass
all_below : (f : ℕ → Bool) (n m : ℕ) → n ≤ m → ((t : ℕ) → t < m → f t ≡ true) → all f (up_to n) ≡ true
all_below f n m h g =
    is_true (all f (up_to n))
    (not_not (all f (up_to n)) (λ b. let r = all_fails f (up_to n) b in T_not (f r.0) r.2 (from_true (f r.0) (g r.0 (omega (arith, up_to_at n r.1))))))

-- how often the lists name a thread in a condition

abbrev lines : (state : ℕ) → ℕ
lines s = cond (leb 1 s && leb s 1) 1 0

abbrev waitings : (state : ℕ) → ℕ
waitings s = cond (leb 3 s && leb s 15) 1 0

abbrev sleeps : (state : ℕ) → ℕ
sleeps s = cond (leb 2 s && leb s 2) 1 0

-- a condition's bits, and how often the lists name the thread: the one says the other
module _ (s lined waiting sleeping : ℕ) (h : s ≤ 3) where
  abbrev InPlace : Type 0
  InPlace = (lined ≡ lines s) × (waiting ≡ waitings s) × (sleeping ≡ sleeps s)

  record Marked : Type 0 where
    odd : waiting + lined ≡ s % 2
    half : waiting + sleeping ≡ s / 2 % 2
    both : bit_and (waiting + lined) (waiting + sleeping) ≡ waiting

  in_place_lem : Marked → InPlace
  in_place_lem m = go s refl
    where
      go : (k : ℕ) → s ≡ k → InPlace
      go zero e = rw e (omega (arith, m.odd), omega (arith, m.odd), omega (arith, m.half))
      go (suc zero) e = rw e (omega (arith, m.odd, m.half), omega (arith, m.half), omega (arith, m.half))
      go (suc (suc zero)) e = rw e (omega (arith, m.odd), omega (arith, m.odd), omega (arith, m.odd, m.half))
      go (suc (suc (suc zero))) e =
          let a : waiting + lined ≡ 1 = m.odd ∙ ap (λ n. n % 2) e in
          let b : waiting + sleeping ≡ 1 = m.half ∙ ap (λ n. n / 2 % 2) e in
          let w : waiting ≡ 1 = sym m.both ∙ ap₂ bit_and a b in
          rw e (omega (arith, a, w), w, omega (arith, b, w))
      go (suc (suc (suc (suc k)))) e = absurd (omega arith)

  -- asked of the four conditions
  each : (f : ℕ → Bool) → T (all f (up_to 4)) → T (f s)
  each f a = all_at f (up_to 4) a (in_up_to 4 s (omega (arith, h)))

  marked : InPlace → Marked
  marked (l, w, d) =
      let wl : waiting + lined ≡ waitings s + lines s = ap₂ (λ a b. a + b) w l in
      let wd : waiting + sleeping ≡ waitings s + sleeps s = ap₂ (λ a b. a + b) w d in
      record {
        odd = wl ∙ eqb→eq (waitings s + lines s) (s % 2) (each (λ k. eqb (waitings k + lines k) (k % 2)) tt);
        half = wd ∙ eqb→eq (waitings s + sleeps s) (s / 2 % 2) (each (λ k. eqb (waitings k + sleeps k) (k / 2 % 2)) tt);
        both = ap₂ bit_and wl wd ∙ eqb→eq (bit_and (waitings s + lines s) (waitings s + sleeps s)) (waitings s) (each (λ k. eqb (bit_and (waitings k + lines k) (waitings k + sleeps k)) (waitings k)) tt) ∙ sym w;
      }

-- the words that are held against the conditions, and what they count
pub record Counting (queue waits delays : List ℕ) : Type 0 where
  pub waiting : ℕ
  pub lowest : ℕ
  pub next : ℕ
  pub waiting' : (t : ℕ) → t < 16 → nibble waiting t ≡ times (λ u. eqb u t) waits
  pub lowest' : (t : ℕ) → t < 16 → nibble lowest t ≡ nibble waiting t + times (λ u. eqb u t) queue
  pub next' : (t : ℕ) → t < 16 → nibble next t ≡ nibble waiting t + times (λ u. eqb u t) delays
  pub fit : (waiting < 2 ^ 64) × (lowest < 2 ^ 64) × (next < 2 ^ 64)

module _ (states : ℕ) {queue waits delays : List ℕ} (words : Counting queue waits delays) where
  abbrev waiting : ℕ
  waiting = words.waiting

  abbrev lowest : ℕ
  lowest = words.lowest

  abbrev next : ℕ
  next = words.next

  abbrev high : ℕ
  high = bit_and states 14757395258967641292

  abbrev odds : ℕ
  odds = bit_and states 1229782938247303441

  abbrev halves : ℕ
  halves = bit_and (states / 2) 1229782938247303441

  -- what is asked of one thread
  abbrev stands : (thread : ℕ) → Bool
  stands t = leb (nibble states t) 3 && stands_by queue waits delays (nibble states t) t

  module _ (t : ℕ) (h : t < 16) where
    abbrev s : ℕ
    s = nibble states t

    abbrev nq : ℕ
    nq = times (λ u. eqb u t) queue

    abbrev nw : ℕ
    nw = times (λ u. eqb u t) waits

    abbrev nd : ℕ
    nd = times (λ u. eqb u t) delays

    -- the numbers of these words at the thread's place
    lowest_at : nibble lowest t ≡ nw + nq
    lowest_at = words.lowest' t h ∙ ap (λ k. k + nq) (words.waiting' t h)

    next_at : nibble next t ≡ nw + nd
    next_at = words.next' t h ∙ ap (λ k. k + nd) (words.waiting' t h)

    high_at : nibble high t ≡ bit_and s 12
    high_at = nibble_and states 14757395258967641292 t ∙ ap (bit_and s) (eqb→eq (nibble 14757395258967641292 t) 12 (everywhere 14757395258967641292 12 tt t h))

    ones_at : (v : ℕ) → nibble (bit_and v 1229782938247303441) t ≡ nibble v t % 2
    ones_at v = nibble_and v 1229782938247303441 t ∙ ap (bit_and (nibble v t)) (eqb→eq (nibble 1229782938247303441 t) 1 (everywhere 1229782938247303441 1 tt t h)) ∙ and_mask (nibble v t) 1

    both_at : nibble (bit_and lowest next) t ≡ bit_and (nw + nq) (nw + nd)
    both_at = nibble_and lowest next t ∙ ap₂ bit_and lowest_at next_at

    -- a thread that stands where its condition says
    place : T (stands t) → (c : s ≤ 3) × Marked s nq nw nd c
    place a =
        let c = leb→le s 3 (and_left (leb s 3) (stands_by queue waits delays s t) a) in
        let b = and_right (leb s 3) (stands_by queue waits delays s t) a in
        let two = and_left (names_by queue 1 1 s t && names_by waits 3 15 s t) (names_by delays 2 2 s t) b in (
          c,
          marked s nq nw nd c (
            eqb→eq nq (lines s) (and_left (names_by queue 1 1 s t) (names_by waits 3 15 s t) two),
            eqb→eq nw (waitings s) (and_right (names_by queue 1 1 s t) (names_by waits 3 15 s t) two),
            eqb→eq nd (sleeps s) (and_right (names_by queue 1 1 s t && names_by waits 3 15 s t) (names_by delays 2 2 s t) b),
          ),
        )

    -- the words say that it does
    placed : high ≡ 0 → odds ≡ lowest → halves ≡ next → bit_and lowest next ≡ waiting → T (stands t)
    placed c o n b =
        let e = low s (omega arith) (sym high_at ∙ ap (λ k. nibble k t) c ∙ zero_nibble t) in
        let m : Marked s nq nw nd e =
        record {
          odd = sym lowest_at ∙ sym (ap (λ k. nibble k t) o) ∙ ones_at states;
          half = sym next_at ∙ sym (ap (λ k. nibble k t) n) ∙ ones_at (states / 2) ∙ nibble_half states t;
          both = sym both_at ∙ ap (λ k. nibble k t) b ∙ words.waiting' t h;
        } in
        let r = in_place_lem s nq nw nd e m in
        and_both (leb s 3) (stands_by queue waits delays s t) (from_true (leb s 3) (le-leb s 3 e))
        (from_true (stands_by queue waits delays s t) (rw (eq-eqb nq (lines s) r.0, eq-eqb nw (waitings s) r.1, eq-eqb nd (sleeps s) r.2)))

  pub all_standing : high ≡ 0 → odds ≡ lowest → halves ≡ next → bit_and lowest next ≡ waiting → T (all_stand states queue waits delays)
  all_standing c o n b = from_true (all stands (up_to 16)) (all_below stands 16 16 (omega arith) (λ t h. is_true (stands t) (placed t h c o n b)))

  -- where all stand so, the words are these
  module _ (a : T (all_stand states queue waits delays)) where
    at : (t : ℕ) (h : t < 16) → (c : nibble states t ≤ 3) × Marked (nibble states t) (nq t h) (nw t h) (nd t h) c
    at t h = place t h (all_at stands (up_to 16) a (in_up_to 16 t h))

    pub no_high : high ≡ 0
    no_high =
        same_word 16 high 0 (omega (arith, and_le_r states 14757395258967641292)) (omega arith)
        (λ t h. high_at t h ∙ eqb→eq (bit_and (nibble states t) 12) 0 (each (nibble states t) 0 0 0 (at t h).0 (λ k. eqb (bit_and k 12) 0) tt) ∙ sym (zero_nibble t))

    pub odds_are : odds ≡ lowest
    odds_are =
        same_word 16 odds lowest (omega (arith, and_le_r states 1229782938247303441)) words.fit.1
        (λ t h. ones_at t h states ∙ sym (at t h).1.odd ∙ sym (lowest_at t h))

    pub halves_are : halves ≡ next
    halves_are =
        same_word 16 halves next (omega (arith, and_le_r (states / 2) 1229782938247303441)) words.fit.2
        (λ t h. ones_at t h (states / 2) ∙ nibble_half states t ∙ sym (at t h).1.half ∙ sym (next_at t h))

    pub both_are : bit_and lowest next ≡ waiting
    both_are =
        same_word 16 (bit_and lowest next) waiting (omega (arith, and_le_l lowest next, words.fit.1)) words.fit.0
        (λ t h. both_at t h ∙ (at t h).1.both ∙ sym (words.waiting' t h))

-- so where all sixteen stand where their conditions say, each list names those that it should
pub all_listed : (n states : ℕ) (queue waits delays : List ℕ) → n ≤ 16 → T (all_stand states queue waits delays) → standing n states queue waits delays ≡ true
all_listed n states queue waits delays h a =
    rw (
      all_below lined n 16 h (λ t l. is_true (lined t) (and_left (lined t) (waiting t) (two t l))),
      all_below waiting n 16 h (λ t l. is_true (waiting t) (and_right (lined t) (waiting t) (two t l))),
      all_below sleeping n 16 h (λ t l. is_true (sleeping t) (and_right (lined t && waiting t) (sleeping t) (three t l))),
    )
  where
    lined : ℕ → Bool
    lined t = names_by queue 1 1 (nibble states t) t

    waiting : ℕ → Bool
    waiting t = names_by waits 3 15 (nibble states t) t

    sleeping : ℕ → Bool
    sleeping t = names_by delays 2 2 (nibble states t) t

    three : (t : ℕ) → t < 16 → T (lined t && waiting t && sleeping t)
    three t l = and_right (leb (nibble states t) 3) (lined t && waiting t && sleeping t) (all_at (λ t. leb (nibble states t) 3 && stands_by queue waits delays (nibble states t) t) (up_to 16) a (in_up_to 16 t l))

    two : (t : ℕ) → t < 16 → T (lined t && waiting t)
    two t l = and_left (lined t && waiting t) (sleeping t) (three t l)
