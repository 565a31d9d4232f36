-- The soonest expiry, asked of the list of expiries itself and not of the slots one by one.
use mathlib.Core.Path.{◌≡◌, refl, subst, ap, sym, ◌∙◌}
use mathlib.Core.Logic.{◌⊎◌, inl, inr, ◌≢◌}
use mathlib.Core.Bool.{Bool, true, false, cond, not, ◌&&◌, ◌||◌}
use mathlib.Core.List.{List, [], ◌∷◌, map}
use mathlib.Core.Option.{Option}
use Prim.Native.Nat.{ℕ, suc, ◌+◌, min, ◌≤◌, ◌<◌}
use native.Mathlib.Omega.{arith}
use borrow.Author.Tests.{eq-eqb, ne_eqb, lt-ltb, le-ltb}
use Rattle.std.proofs.lemmas.Bool.{cases_lt}
use lib.Dec.{eqb, ltb}
use lib.ListN.{length, get_or}
use Rattle.std.specs.Prelude.{fold, filter}
use Rattle.model.specs.Searches.{count_from}
use Rattle.model.specs.Timers.{Timer}
use Rattle.model.specs.Formed.{last_wake}
use Rattle.model.proofs.Tests.{equal?}
use Rattle.model.proofs.Loops.{and_true}
use Rattle.clock.specs.declared.time.Tick.{Tick}
use Rattle.clock.specs.View.{number_at, slot_of}
use Rattle.clock.specs.Clauses.{soonest}
use Rattle.clock.proofs.Slots.{slots_of, not_armed, is_armed_lem}

abbrev pub armed : Tick → Bool
armed e = not (eqb e.0 0)

-- the least number of those that are armed
abbrev pub earliest : List Tick → ℕ
earliest [] = last_wake
earliest (e ∷ es) = cond (eqb e.0 0) (earliest es) (min e.0 (earliest es))

earliest_last : (es : List Tick) → earliest es ≤ last_wake
earliest_last [] = omega arith
earliest_last (e ∷ es) = elim (equal? e.0 0) [ inl z ↦ rw (eq-eqb e.0 0 z) (earliest_last es) | inr d ↦ rw (ne_eqb e.0 0 d) (omega (arith, earliest_last es)) ]

-- the slots from j on are those of these expiries
from : (es : List Tick) (number period : ℕ → ℕ) (j : ℕ) → ((i : ℕ) → number (j + i) ≡ number_at es i)
    → soonest (map (λ i. slot_of (number i) (period i)) (count_from j (length es))) ≡ earliest es
from [] number period j e = refl
from (x ∷ es) number period j e =
    let here : number j ≡ x.0 = ap number (omega arith) ∙ e 0 in
    let rest = from es number period (suc j) (λ i. ap number (omega arith) ∙ e (suc i)) in
    let more : List (Option Timer) = map (λ i. slot_of (number i) (period i)) (count_from (suc j) (length es)) in
    elim (equal? x.0 0) [
      | inl z ↦ rw (eq-eqb x.0 0 z) (ap (λ (o : Option Timer). soonest (o ∷ more)) (not_armed (period j) (here ∙ z)) ∙ rest)
      | inr d ↦ rw (ne_eqb x.0 0 d) (ap (λ (o : Option Timer). soonest (o ∷ more)) (is_armed_lem (period j) (λ q. d (sym here ∙ q))) ∙ omega (arith, here, rest))
    ]

module _ (numbers : List Tick) (periods : List ℕ) (sized : length numbers ≡ 8) where
  pub earliest_is : soonest (slots_of numbers periods) ≡ earliest numbers
  earliest_is =
      subst (λ (n : ℕ). soonest (map (λ i. slot_of (number_at numbers i) (get_or periods i 0)) (count_from 0 n)) ≡ earliest numbers) sized
      (from numbers (number_at numbers) (λ i. get_or periods i 0) 0 (λ i. ap (number_at numbers) (omega arith)))

-- the least of a number and of those that are armed
abbrev pub least : Tick → Tick → Tick
least a b = record { 0 = min a.0 b.0 }

least_of : (a : Tick) (es : List Tick) → a.0 ≤ last_wake → (fold least a (filter armed es)).0 ≡ min a.0 (earliest es)
least_of a [] h = omega arith
least_of a (e ∷ es) h =
    elim (equal? e.0 0) [
      | inl z ↦ rw (eq-eqb e.0 0 z) (least_of a es h)
      | inr d ↦ rw (ne_eqb e.0 0 d) (omega (arith, least_of (least a e) es (omega arith)))
    ]

pub least_armed : (es : List Tick) → (fold least (record { 0 = last_wake }) (filter armed es)).0 ≡ earliest es
least_armed es = omega (arith, least_of (record { 0 = last_wake }) es (omega arith), earliest_last es)

above_least : (n a b : ℕ) → ltb n a && ltb n b ≡ ltb n (min a b)
above_least n a b =
    elim (cases_lt n a) [
      | inl j ↦ rw (lt-ltb n a j)
          (elim (cases_lt n b) [ inl k ↦ lt-ltb n b k ∙ sym (lt-ltb n (min a b) (omega arith)) | inr k ↦ le-ltb n b k ∙ sym (le-ltb n (min a b) (omega arith)) ])
      | inr j ↦ rw (le-ltb n a j) (sym (le-ltb n (min a b) (omega arith)))
    ]

-- each that is armed is above this number where the least is
module _ (n : ℕ) where
  abbrev pub above : Bool → Tick → Bool
  above pass e = pass && (eqb e.0 0 || ltb n e.0)

  pub all_above : n < last_wake → (pass : Bool) (es : List Tick) → fold above pass es ≡ pass && ltb n (earliest es)
  all_above h pass [] = rw (lt-ltb n last_wake h) (sym (and_true pass))
  all_above h pass (e ∷ es) = all_above h (above pass e) es ∙ go pass (equal? e.0 0)
    where
      go : (pass : Bool) → (e.0 ≡ 0) ⊎ (e.0 ≢ 0) → above pass e && ltb n (earliest es) ≡ pass && ltb n (earliest (e ∷ es))
      go false q = refl
      go true (inl z) = rw (eq-eqb e.0 0 z) refl
      go true (inr d) = rw (ne_eqb e.0 0 d) (above_least n e.0 (earliest es))
