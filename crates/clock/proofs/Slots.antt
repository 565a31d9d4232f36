-- What the slots of the timers are: what stands where, and what a change of one entry changes.
use mathlib.Core.Path.{◌≡◌, refl, sym, ap, ap₂, ◌∙◌}
use mathlib.Core.Logic.{◌⊎◌, inl, inr, ◌≢◌}
use mathlib.Core.Bool.{Bool, true, false, cond, not}
use mathlib.Core.List.{List, [], ◌∷◌, map}
use mathlib.Core.Option.{Option, none, some}
use Prim.Native.Nat.{ℕ, zero, suc, ◌≤◌, ◌<◌}
use native.Mathlib.Omega.{arith}
use borrow.Author.Tests.{eq-eqb, ne_eqb}
use lib.Dec.{eqb}
use lib.ListN.{length, get_or, set}
use lib.Seq.{get_or-set_same, get_or-set_other}
use Rattle.std.specs.Prelude as std
use Rattle.std.specs.Prelude.{Some, None, IfSome, unwrap_or}
use Rattle.model.specs.Searches.{up_to}
use Rattle.model.specs.Records.{timer_count}
use Rattle.model.specs.Timers.{Timer, timer, slot, is_armed, expires_at}
use Rattle.model.proofs.Tests.{equal?}
use Rattle.model.proofs.Loops.{listed, changed_at}
use Rattle.clock.specs.declared.time.Tick.{Tick}
use Rattle.clock.specs.declared.timers.Timers.{Timers}
use Rattle.clock.specs.View.{number_at, slot_of, slot_from, slot_in, view}
use Rattle.clock.specs.Clauses.{soonest}

-- the eight slots, each made of its own entries

pub slot_at : (t : Timers) (i : ℕ) → i < timer_count → slot (view t) i ≡ slot_in t i
slot_at t i h = listed (slot_in t) timer_count i none h

-- an entry of 0 is a timer that is not armed, any other one that is

pub not_armed : {e : ℕ} (n : ℕ) → e ≡ 0 → slot_of e n ≡ none
not_armed {e} n z = rw (eq-eqb e 0 z)

pub is_armed_lem : {e : ℕ} (n : ℕ) → e ≢ 0 → slot_of e n ≡ some (timer e n)
is_armed_lem {e} n d = rw (ne_eqb e 0 d)

-- what the tests of an entry ask of its slot

armed_test : (b : Bool) (t : Timer) → not b ≡ is_armed (cond b none (some t))
armed_test true t = refl
armed_test false t = refl

pub armed_entry : (t : Timers) (i : ℕ) → i < timer_count → not (eqb (number_at t.expiries i) 0) ≡ is_armed (slot (view t) i)
armed_entry t i h = armed_test (eqb (number_at t.expiries i) 0) _ ∙ sym (ap is_armed (slot_at t i h))

-- at a tick number above 0 no timer expires that is not armed
pub expiring_entry : (t : Timers) (i k : ℕ) → i < timer_count → 0 < k → eqb (number_at t.expiries i) k ≡ expires_at k (slot (view t) i)
expiring_entry t i k h n = go (equal? e 0) ∙ sym (ap (expires_at k) (slot_at t i h))
  where
    e : ℕ
    e = number_at t.expiries i

    go : (e ≡ 0) ⊎ (e ≢ 0) → eqb e k ≡ expires_at k (slot_in t i)
    go (inl z) = ne_eqb e k (λ q. omega arith) ∙ sym (ap (expires_at k) (not_armed (get_or t.periods i 0) z))
    go (inr d) = sym (ap (expires_at k) (is_armed_lem (get_or t.periods i 0) d))

-- an expiry that is stored, 0 for none, makes the slot that it stands for
pub stored_slot : (o : std.Option Tick) (n k : ℕ) → IfSome o (λ e. k < e.0) → slot_of (unwrap_or o (record { 0 = 0 })).0 n ≡ slot_from o n
stored_slot None n k h = refl
stored_slot (Some e) n k h = is_armed_lem n (λ z. omega arith)

-- the number of an entry after one is stored

pub number_same : (numbers : List Tick) (i : ℕ) (e : Tick) → i < length numbers → number_at (set numbers i e) i ≡ e.0
number_same numbers i e h = ap (λ (x : Tick). x.0) (get_or-set_same numbers i e (record { 0 = 0 }) h)

pub number_other : (numbers : List Tick) (i k : ℕ) (e : Tick) → k ≢ i → number_at (set numbers i e) k ≡ number_at numbers k
number_other numbers i k e d = ap (λ (x : Tick). x.0) (get_or-set_other numbers i k e (record { 0 = 0 }) d)

-- the slots of these expiries and periods
abbrev pub slots_of : List Tick → List ℕ → List (Option Timer)
slots_of numbers periods = map (λ i. slot_of (number_at numbers i) (get_or periods i 0)) (up_to timer_count)

-- An expiry stored changes this slot, where the periods stay as they are elsewhere.
pub slots_set : (t : Timers) (i : ℕ) (e : Tick) (periods : List ℕ) → i < length t.expiries → ((k : ℕ) → k ≢ i → get_or periods k 0 ≡ get_or t.periods k 0)
    → slots_of (set t.expiries i e) periods ≡ set (view t).slots i (slot_of e.0 (get_or periods i 0))
slots_set t i e periods h kept =
    changed_at (slot_in t) (λ k. slot_of (number_at (set t.expiries i e) k) (get_or periods k 0)) timer_count i
    (λ k d. ap₂ slot_of (number_other t.expiries i k e d) (kept k d))
    ∙ ap (λ n. set (view t).slots i (slot_of n (get_or periods i 0))) (number_same t.expiries i e h)

-- the soonest is at most every expiry

pub soonest_least : (ts : List (Option Timer)) (i : ℕ) (u : Timer) → get_or ts i none ≡ some u → soonest ts ≤ u.expiry
soonest_least [] i u e = absurd (no_timer u e)
  where
    no_timer : (u : Timer) → none ≡ some u → ⊥
    no_timer u e = let z : ◌≡◌ {A = ℕ} 0 1 = cc in omega arith
soonest_least (none ∷ ts) zero u e = let z : ◌≡◌ {A = ℕ} 0 1 = cc in omega arith
soonest_least (some t ∷ ts) zero u e = let z : t ≡ u = cc in omega (arith, ap (λ (x : Timer). x.expiry) z)
soonest_least (none ∷ ts) (suc i) u e = soonest_least ts i u e
soonest_least (some t ∷ ts) (suc i) u e = omega (arith, soonest_least ts i u e)
