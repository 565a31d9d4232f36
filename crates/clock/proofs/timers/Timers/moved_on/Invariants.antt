-- `Timers::moved_on_lem` meets its contract: after i turns the timers before i have moved on, and the others are as they were.
use mathlib.Core.Path.{◌≡◌, refl, ap, sym, ◌∙◌}
use mathlib.Core.Logic.{◌⊎◌, inl, inr, ◌≢◌}
use mathlib.Core.List.{List}
use Prim.Native.Nat.{ℕ, ◌+◌, ◌≤◌, ◌<◌}
use native.Mathlib.Omega.{arith}
use borrow.Author.Tests.{eq-eqb, ne_eqb}
use lib.ListN.{length, get_or, set, length-set}
use Rattle.model.specs.Timers.{timer, again, moved_on, move_on}
use Rattle.model.proofs.Tests.{equal?}
use Rattle.model.proofs.Loops.{listed_alike}
use Rattle.clock.specs.declared.time.Tick.{Tick}
use Rattle.clock.specs.declared.timers.Timers.{Timers}
use Rattle.clock.specs.View.{number_at, slot_of, slot_in, view}
use Rattle.clock.proofs.Slots.{slots_of, not_armed, is_armed_lem, number_same, number_other}
use Rattle.clock.proofs.timers.Timers.moved_on.Given as goal

pub stays : (e n p : ℕ) → e ≢ n → moved_on n (slot_of e p) ≡ slot_of e p
stays e n p d = go (equal? e 0)
  where
    go : (e ≡ 0) ⊎ (e ≢ 0) → moved_on n (slot_of e p) ≡ slot_of e p
    go (inl z) = ap (moved_on n) (not_armed p z) ∙ sym (not_armed p z)
    go (inr a) = ap (moved_on n) (is_armed_lem p a) ∙ (rw (ne_eqb e n d)) ∙ sym (is_armed_lem p a)

pub moves : {e : ℕ} (n p : ℕ) → 0 < n → e ≡ n → moved_on n (slot_of e p) ≡ again (timer n p)
moves {e} n p h q = ap (λ x. moved_on n (slot_of x p)) q ∙ ap (moved_on n) (is_armed_lem {e = n} p (λ z. omega arith)) ∙ (rw (eq-eqb n n refl))

module _ (t : Timers) (n : ℕ) where
  abbrev pub period : ℕ → ℕ
  period k = get_or t.periods k 0

  pub record MovedTo (i : ℕ) (expiries : List Tick) : Type 0 where
    pub sized : length expiries ≡ length t.expiries
    pub moved : (k : ℕ) → k < i → slot_of (number_at expiries k) (period k) ≡ moved_on n (slot_in t k)
    pub kept : (k : ℕ) → i ≤ k → number_at expiries k ≡ number_at t.expiries k

  pub none-moved : MovedTo 0 t.expiries
  none-moved = record { sized = refl; moved = λ k h. absurd (omega arith); kept = λ k h. refl }

  pub all_moved : {i : ℕ} (expiries : List Tick) → 8 ≤ i → MovedTo i expiries → slots_of expiries t.periods ≡ (move_on n (view t)).slots
  all_moved expiries h inv = listed_alike (λ k. slot_of (number_at expiries k) (period k)) (λ k. moved_on n (slot_in t k)) 8 (λ k l. inv.moved k (omega arith))

  module _ (i : ℕ) (expiries : List Tick) (inv : MovedTo i expiries) where
    -- the timer i expires now
    pub moves-on : (e : Tick) → i < length expiries → 0 < n → number_at t.expiries i ≡ n → slot_of e.0 (period i) ≡ again (timer n (period i)) → MovedTo (i + 1) (set expiries i e)
    moves-on e h above now next =
        record {
          sized = length-set expiries i e ∙ inv.sized;
          moved = λ k l. at k l (equal? k i);
          kept = λ k l. number_other expiries i k e (λ z. omega arith) ∙ inv.kept k (omega arith);
        }
      where
        at : (k : ℕ) → k < i + 1 → (k ≡ i) ⊎ (k ≢ i) → slot_of (number_at (set expiries i e) k) (period k) ≡ moved_on n (slot_in t k)
        at k l (inl z) = rw z (ap (λ x. slot_of x (period i)) (number_same expiries i e h) ∙ next ∙ sym (moves n (period i) above now))
        at k l (inr d) = ap (λ x. slot_of x (period k)) (number_other expiries i k e d) ∙ inv.moved k (omega arith)

    -- it does not
    pub stays_on : number_at t.expiries i ≢ n → MovedTo (i + 1) expiries
    stays_on d = record { sized = inv.sized; moved = λ k l. at k l (equal? k i); kept = λ k l. inv.kept k (omega arith) }
      where
        at : (k : ℕ) → k < i + 1 → (k ≡ i) ⊎ (k ≢ i) → slot_of (number_at expiries k) (period k) ≡ moved_on n (slot_in t k)
        at k l (inl z) = rw z (ap (λ x. slot_of x (period i)) (inv.kept i (omega arith)) ∙ sym (stays (number_at t.expiries i) n (period i) d))
        at k l (inr e) = inv.moved k (omega arith)

abbrev pub invariant-loop-i : goal.invariant-loop-i
invariant-loop-i l = MovedTo l.t l.number.0 l.i l.expiries
