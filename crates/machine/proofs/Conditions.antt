-- What the model asks of a condition, said of the numbers that it is read from.
use mathlib.Core.Path.{◌≡◌, refl, ap, sym, subst, ◌∙◌}
use mathlib.Core.Bool.{Bool, ◌&&◌}
use mathlib.Core.List.{List, map}
use Prim.Native.Nat.{ℕ, zero, suc, ◌*◌, ◌^◌, ◌<◌}
use native.Mathlib.Nat.{zero-div}
use native.Mathlib.Omega.{arith}
use borrow.Author.Tests.{ne_eqb}
use lib.Dec.{T, eqb, eqb→eq, eqb_refl}
use lib.ListN.{replicate}
use Rattle.model.specs.Searches.{count_from}
use Rattle.model.specs.State.{dormant, asleep, waiting}
use Rattle.model.specs.Calls.{sleeps_until, wanted}
use Rattle.model.specs.Rules.{is_dormant}
use Rattle.model.specs.Formed.{in_waits}
use Rattle.model.proofs.Tests.{and_right}
use Rattle.clock.specs.declared.time.Tick.{Tick}
use Rattle.machine.specs.View.{condition_of, condition_in, conditions_of}

-- of a state, the section wanted and the tick number
module _ (s n w : ℕ) where
  -- a number that names no condition
  pub at_none : 3 < s → condition_of s n w ≡ waiting 255
  at_none h = rw (ne_eqb s 0 (λ e. omega arith), ne_eqb s 1 (λ e. omega arith), ne_eqb s 2 (λ e. omega arith), ne_eqb s 3 (λ e. omega arith))

  -- what holds in each of the four states, and where the number names none, holds
  pub by_state : (P : Type 0) → (s ≡ 0 → P) → (s ≡ 1 → P) → (s ≡ 2 → P) → (s ≡ 3 → P) → (3 < s → P) → P
  by_state P a b c d x = go s refl
    where
      go : (k : ℕ) → s ≡ k → P
      go zero e = a e
      go (suc zero) e = b e
      go (suc (suc zero)) e = c e
      go (suc (suc (suc zero))) e = d e
      go (suc (suc (suc (suc k)))) e = x (omega arith)

  pub dormant_state : is_dormant (condition_of s n w) ≡ eqb s 0
  dormant_state =
      by_state (is_dormant (condition_of s n w) ≡ eqb s 0) (λ e. rw e) (λ e. rw e) (λ e. rw e) (λ e. rw e)
      (λ h. ap is_dormant (at_none h) ∙ sym (ne_eqb s 0 (λ e. omega arith)))

  sleeps_state : (k : ℕ) → sleeps_until k (condition_of s n w) ≡ eqb s 2 && eqb w k
  sleeps_state k =
      by_state (sleeps_until k (condition_of s n w) ≡ eqb s 2 && eqb w k) (λ e. rw e) (λ e. rw e) (λ e. rw e) (λ e. rw e)
      (λ h. ap (sleeps_until k) (at_none h) ∙ sym (ap (λ b. b && eqb w k) (ne_eqb s 2 (λ e. omega arith))))

  -- a sleeper's tick number is the one beside its condition
  pub sleeps_at : (k : ℕ) → condition_of s n w ≡ asleep k → w ≡ k
  sleeps_at k e = eqb→eq w k (and_right (eqb s 2) (eqb w k) (subst (λ (b : Bool). T b) (sym (ap (sleeps_until k) e) ∙ sleeps_state k) (eqb_refl k)))

  -- a thread that waits for a section of a plan wants that one: no plan has the section 255
  pub wants_it : (k : ℕ) → condition_of s n w ≡ waiting k → k < 16 → n ≡ k
  wants_it k e h =
      by_state (n ≡ k) (λ q. absurd (omega (arith, rw q at (ap in_waits e)))) (λ q. absurd (omega (arith, rw q at (ap in_waits e))))
      (λ q. absurd (omega (arith, rw q at (ap in_waits e)))) (λ q. rw q at (ap wanted e)) (λ q. absurd (omega (arith, ap wanted e, ap wanted (at_none q))))

-- words of zeros stand for threads that are all dormant
pub all_dormant : (threads : ℕ) (wakes : List Tick) → conditions_of threads (record { states = 0; wants = 0 }) wakes ≡ replicate threads dormant
all_dormant threads wakes = from 0 threads
  where
    from : (i n : ℕ) → map (condition_in (record { states = 0; wants = 0 }) wakes) (count_from i n) ≡ replicate n dormant
    from i zero = refl
    from i (suc n) = rw (zero-div (2 ^ (4 * i)), from (suc i) n)
