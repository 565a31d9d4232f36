-- What the views of the code's words and arrays are: how long, what stands where, what a change of one entry changes.
use mathlib.Core.Path.{◌≡◌, ap, ap₂, sym, ◌∙◌}
use mathlib.Core.List.{List}
use Prim.Native.Nat.{ℕ, ◌<◌}
use native.Mathlib.Omega.{arith}
use lib.ListN.{length, get_or, set}
use lib.Seq.{get_or-set_same, get_or-set_other}
use Rattle.model.specs.Plan.{threads}
use Rattle.model.specs.State.{dormant, asleep, waiting}
use Rattle.model.proofs.Loops.{listed, length-listed, changed_at}
use Rattle.plan.proofs.Laws.{threads_view}
use Rattle.machine.specs.declared.Machine.{Machine}
use Rattle.machine.specs.declared.slots.Slots.{Slots}
use Rattle.clock.specs.declared.time.Tick.{Tick}
use Rattle.lists.specs.Words.{nibble}
use Rattle.lists.proofs.Laws.{read_set, read_other}
use Rattle.clock.specs.View.{number_at}
use Rattle.machine.specs.View.{condition_of, condition_in, conditions_of, plan_of, idle}
use Rattle.machine.specs.Clauses.{placed, waits_for}

-- there is a condition for each thread of the plan
pub sized : (m : Machine) → length (idle m).conditions ≡ threads (plan_of m)
sized m = length-listed (condition_in m.slots m.wakes) m.plan.threads ∙ sym (threads_view m.plan)

pub condition_at : (n : ℕ) (slots : Slots) (wakes : List Tick) (t : ℕ) → t < n → get_or (conditions_of n slots wakes) t dormant ≡ condition_in slots wakes t
condition_at n slots wakes t h = listed (condition_in slots wakes) n t dormant h

-- what another condition of one thread changes: its number, the section that it waits for, the tick number that it sleeps until

module _ (n : ℕ) (slots : Slots) (wakes : List Tick) (t : ℕ) where
  pub placed_seen : (k : ℕ) → k < 16 → conditions_of n (placed slots t k) wakes ≡ set (conditions_of n slots wakes) t (condition_of k (nibble slots.wants t) (number_at wakes t))
  placed_seen k h =
      changed_at (condition_in slots wakes) (condition_in (placed slots t k) wakes) n t (λ i d. ap (λ s. condition_of s (nibble slots.wants i) (number_at wakes i)) (read_other slots.states t i k h d))
      ∙ ap (λ s. set (conditions_of n slots wakes) t (condition_of s (nibble slots.wants t) (number_at wakes t))) (read_set slots.states t k h)

  pub waits_seen : (k : ℕ) → k < 16 → conditions_of n (waits_for slots t k) wakes ≡ set (conditions_of n slots wakes) t (waiting k)
  waits_seen k h =
      changed_at (condition_in slots wakes) (condition_in (waits_for slots t k) wakes) n t
      (λ i d. ap₂ (λ (s w : ℕ). condition_of s w (number_at wakes i)) (read_other slots.states t i 3 (omega arith) d) (read_other slots.wants t i k h d))
      ∙ ap₂ (λ (s w : ℕ). set (conditions_of n slots wakes) t (condition_of s w (number_at wakes t))) (read_set slots.states t 3 (omega arith)) (read_set slots.wants t k h)

  pub sleeps_seen : (k : Tick) → t < length wakes → conditions_of n (placed slots t 2) (set wakes t k) ≡ set (conditions_of n slots wakes) t (asleep k.0)
  sleeps_seen k h =
      changed_at (condition_in slots wakes) (condition_in (placed slots t 2) (set wakes t k)) n t
      (λ i d. ap₂ (λ (s w : ℕ). condition_of s (nibble slots.wants i) w) (read_other slots.states t i 2 (omega arith) d) (ap (λ (x : Tick). x.0) (get_or-set_other wakes t i k (record { 0 = 0 }) d)))
      ∙ ap₂ (λ (s w : ℕ). set (conditions_of n slots wakes) t (condition_of s (nibble slots.wants t) w)) (read_set slots.states t 2 (omega arith)) (ap (λ (x : Tick). x.0) (get_or-set_same wakes t k (record { 0 = 0 }) h))
