-- The rules that the code answers are the model's questions: of every record 31, of a call 21 and those behind it, of a report 28 to 30.
use mathlib.Core.Path.{◌≡◌, refl, ap, sym, ◌∙◌}
use mathlib.Core.Logic.{◌⊎◌, inl, inr, ◌≢◌}
use mathlib.Core.Bool.{Bool, true, false, cond, ◌||◌}
use mathlib.Core.List.{List, [], ◌∷◌}
use mathlib.Core.Option.{Option, none, some}
use Prim.Native.Nat.{ℕ, ◌<◌}
use native.Mathlib.Omega.{arith}
use borrow.Author.Tests.{ne_eqb, le-ltb}
use lib.Dec.{eqb}
use lib.ListN.{get_or}
use Rattle.model.specs.Searches.{same}
use Rattle.model.specs.Plan.{Plan, may_take}
use Rattle.model.specs.Records.{Call, call, report, call_kind, is_tick, operand}
use Rattle.model.specs.Records as records
use Rattle.model.specs.State.{condition}
use Rattle.model.specs.State as state
use Rattle.model.specs.Priorities.{chosen}
use Rattle.model.specs.Timers.{slot, is_armed}
use Rattle.model.specs.Rules.{Question, ◌asks◌, first_no, nothing_due, is_somebody, ask_caller, is_dormant, holds_none, holds_not, last_taken, call_place, place, in_order, timer_questions, later_questions, broken}
use Rattle.model.proofs.Tests.{equal?}
use Rattle.plan.specs.View.{may_take_in}
use Rattle.lists.specs.declared.holds.Holds.{Holds}
use Rattle.due.specs.declared.reports.Report as declared
use Rattle.machine.specs.declared.slots.Slots.{Slots}
use Rattle.lists.specs.Words.{nibble}
use Rattle.lists.specs.Lists.{numbered, held}
use Rattle.lists.proofs.Laws.{number_is}
use Rattle.clock.specs.View.{number_at}
use Rattle.due.specs.Lists.{report_of, IsReport}
use Rattle.clock.specs.declared.time.Tick.{Tick}
use Rattle.clock.specs.declared.timers.Timers.{Timers}
use Rattle.clock.specs.View as timing
use Rattle.clock.specs.Clauses.{kind_place}
use Rattle.machine.specs.View.{conditions_of}
use Rattle.machine.specs.Rules.{rule_number, run_rule, free_rule, create_rule, take_rule, give_rule, cancel_rule, due_rule}
use Rattle.machine.specs.Records.{Named}
use Rattle.machine.proofs.Conditions.{dormant_state}
use Rattle.machine.proofs.Views.{condition_at}
use Rattle.due.proofs.Laws.{kind_is, same_operand}

-- what is asked of a call behind 21
abbrev pub later : Plan → state.State → Call → List Question
later p st (records.Create t) = 23 asks is_dormant (condition st t) ∷ []
later p st (records.Delay n) = 22 asks is_somebody (chosen p st) ∷ 24 asks ask_caller (chosen p st) (holds_none st.holds) ∷ []
later p st records.Relinquish = 22 asks is_somebody (chosen p st) ∷ []
later p st records.End = 22 asks is_somebody (chosen p st) ∷ 24 asks ask_caller (chosen p st) (holds_none st.holds) ∷ []
later p st (records.Take s) =
    22 asks is_somebody (chosen p st) ∷ 25 asks ask_caller (chosen p st) (λ x. may_take p x s) ∷ 26 asks ask_caller (chosen p st) (holds_not st.holds s) ∷ []
later p st (records.Give s) = 22 asks is_somebody (chosen p st) ∷ 27 asks ask_caller (chosen p st) (λ x. same (last_taken st.holds x) (some s)) ∷ []
later p st records.Tick = []
later p st (records.Timing k) = 22 asks is_somebody (chosen p st) ∷ timer_questions st k

-- the place of a record, by the number of its kind

call_place_lem : (k : Call) → call_place k ≡ kind_place (call_kind k)
call_place_lem (records.Create t) = refl
call_place_lem (records.Delay n) = refl
call_place_lem records.Relinquish = refl
call_place_lem records.End = refl
call_place_lem (records.Take s) = refl
call_place_lem (records.Give s) = refl
call_place_lem records.Tick = refl
call_place_lem (records.Timing (records.Arm i)) = refl
call_place_lem (records.Timing (records.Start n)) = refl
call_place_lem (records.Timing (records.Period n)) = refl
call_place_lem (records.Timing (records.Cancel i)) = refl

pub calls_below : (k : Call) → call_kind k < 16
calls_below (records.Create t) = omega arith
calls_below (records.Delay n) = omega arith
calls_below records.Relinquish = omega arith
calls_below records.End = omega arith
calls_below (records.Take s) = omega arith
calls_below (records.Give s) = omega arith
calls_below records.Tick = omega arith
calls_below (records.Timing (records.Arm i)) = omega arith
calls_below (records.Timing (records.Start n)) = omega arith
calls_below (records.Timing (records.Period n)) = omega arith
calls_below (records.Timing (records.Cancel i)) = omega arith

-- Tick is the call of kind 7
pub no_tick_lem : (k : Call) → call_kind k ≢ 7 → is_tick k ≡ false
no_tick_lem (records.Create t) d = refl
no_tick_lem (records.Delay n) d = refl
no_tick_lem records.Relinquish d = refl
no_tick_lem records.End d = refl
no_tick_lem (records.Take s) d = refl
no_tick_lem (records.Give s) d = refl
no_tick_lem records.Tick d = absurd (d refl)
no_tick_lem (records.Timing k) d = refl

report_place : (r : declared.Report) → IsReport r → 0 ≡ kind_place r.kind
report_place r i = rw (ne_eqb r.kind 9 (λ e. omega (arith, i.least)), ne_eqb r.kind 10 (λ e. omega (arith, i.least)))

pub named_place : {kind n : ℕ} {r : records.Record} → Named kind n r → place r ≡ kind_place kind
named_place (inl k) = ap place k.1 ∙ call_place_lem k.0 ∙ ap kind_place k.2
named_place {kind} {n} (inr k) = ap place k.1 ∙ report_place (record { kind = kind; spare = 0; operand = n }) k.0

-- the number of the first No, 0 if there is none
abbrev pub number : List Question → ℕ
number qs = rule_number (first_no qs)

number_of : (b : Bool) (n : ℕ) → cond b 0 n ≡ rule_number (cond b none (some n))
number_of true n = refl
number_of false n = refl

number_of_two : (a b : Bool) (m n : ℕ) → cond a (cond b 0 n) m ≡ rule_number (cond a (cond b none (some n)) (some m))
number_of_two true b m n = number_of b n
number_of_two false b m n = refl

-- 23, of a slot that is in use
pub create_asked : (n : ℕ) (slots : Slots) (wakes : List Tick) (t : ℕ) → t < n → create_rule slots t ≡ number (23 asks is_dormant (get_or (conditions_of n slots wakes) t state.dormant) ∷ [])
create_asked n slots wakes t h =
    number_of (eqb (nibble slots.states t) 0) 23
    ∙ ap (λ b. rule_number (cond b none (some 23))) (sym (dormant_state (nibble slots.states t) (nibble slots.wants t) (number_at wakes t)))
    ∙ ap (λ c. rule_number (cond (is_dormant c) none (some 23))) (sym (condition_at n slots wakes t h))

-- 22, and what is asked of the caller behind it
module _ (o : Option ℕ) (known : (t : ℕ) → o ≡ some t → t < 16) where
  caller : (f : ℕ → ℕ) (qs : List Question) → ((x : ℕ) → o ≡ some x → f x ≡ number qs) → cond (eqb (numbered o) 255) 22 (f (numbered o)) ≡ number (22 asks is_somebody o ∷ qs)
  caller f qs h = go o refl
    where
      go : (q : Option ℕ) → o ≡ q → cond (eqb (numbered q) 255) 22 (f (numbered q)) ≡ number (22 asks is_somebody q ∷ qs)
      go none e = refl
      go (some x) e = let k = known x e in rw (ne_eqb x 255 (λ q. omega arith)) (h x e)

  pub run_asked : run_rule (numbered o) ≡ number (22 asks is_somebody o ∷ [])
  run_asked = caller (λ x. 0) [] (λ x e. refl)

  pub free_asked : (hs : Holds) → free_rule hs (numbered o) ≡ number (22 asks is_somebody o ∷ 24 asks ask_caller o (holds_none (held hs)) ∷ [])
  free_asked hs =
      caller (λ x. cond (holds_none (held hs) x) 0 24) (24 asks ask_caller o (holds_none (held hs)) ∷ [])
      (λ x e. rw e (number_of (holds_none (held hs) x) 24))

  pub take_asked : (threads : ℕ) (needs : List ℕ) (hs : Holds) (s : ℕ)
      → take_rule threads needs hs (numbered o) s
      ≡ number (22 asks is_somebody o ∷ 25 asks ask_caller o (λ x. may_take_in threads needs x s) ∷ 26 asks ask_caller o (holds_not (held hs) s) ∷ [])
  take_asked threads needs hs s =
      caller (λ x. cond (may_take_in threads needs x s) (cond (holds_not (held hs) s x) 0 26) 25)
      (25 asks ask_caller o (λ x. may_take_in threads needs x s) ∷ 26 asks ask_caller o (holds_not (held hs) s) ∷ [])
      (λ x e. rw e (number_of_two (may_take_in threads needs x s) (holds_not (held hs) s x) 25 26))

  pub give_asked : (hs : Holds) (s : ℕ) → s < 16 → give_rule hs (numbered o) s ≡ number (22 asks is_somebody o ∷ 27 asks ask_caller o (λ x. same (last_taken (held hs) x) (some s)) ∷ [])
  give_asked hs s h =
      caller (λ x. cond (eqb (numbered (last_taken (held hs) x)) s) 0 27) (27 asks ask_caller o (λ x. same (last_taken (held hs) x) (some s)) ∷ [])
      (λ x e. rw (e, number_is (last_taken (held hs) x) s (λ q. omega arith)) (number_of (same (last_taken (held hs) x) (some s)) 27))

  pub cancel_asked : (ts : Timers) (i : ℕ) → cancel_rule ts (numbered o) i ≡ number (22 asks is_somebody o ∷ 32 asks is_armed (slot (timing.view ts) i) ∷ [])
  cancel_asked ts i =
      caller (λ x. cond (is_armed (slot (timing.view ts) i)) 0 32) (32 asks is_armed (slot (timing.view ts) i) ∷ [])
      (λ x e. number_of (is_armed (slot (timing.view ts) i)) 32)

module _ (p : Plan) (st : state.State) where
  -- 31
  pub order_asked : (r : records.Record) → broken p st r ≡ cond (in_order st.timers.arming r) (first_no (later_questions p st r)) (some 31)
  unfolding broken
  order_asked r = refl

  -- 21, of calls other than Tick
  pub first_asked : (k : Call) → first_no (later_questions p st (call k)) ≡ cond (is_tick k || nothing_due st) (first_no (later p st k)) (some 21)
  first_asked (records.Create t) = refl
  first_asked (records.Delay n) = refl
  first_asked records.Relinquish = refl
  first_asked records.End = refl
  first_asked (records.Take s) = refl
  first_asked (records.Give s) = refl
  first_asked records.Tick = refl
  first_asked (records.Timing k) = refl

  -- 28
  pub none_asked : (r : records.Report) → st.due ≡ [] → 28 ≡ rule_number (first_no (later_questions p st (report r)))
  none_asked r e = rw e

  -- 29 and 30
  pub report_asked : (d r : declared.Report) (rest : List records.Report) → IsReport d → IsReport r → st.due ≡ report_of d ∷ rest
      → due_rule d r.kind r.operand ≡ rule_number (first_no (later_questions p st (report (report_of r))))
  report_asked d r rest i j e = rw (e, kind_is d i, kind_is r j, le-ltb r.kind 16 j.least) (go (equal? d.kind r.kind))
    where
      go : (d.kind ≡ r.kind) ⊎ (d.kind ≢ r.kind)
          → cond (eqb d.kind r.kind) (cond (eqb d.operand r.operand) 0 30) 29 ≡ rule_number (cond (eqb d.kind r.kind) (cond (same (operand (report_of d)) (operand (report_of r))) none (some 30)) (some 29))
      go (inl k) = rw (same_operand d r i k) (number_of_two (eqb d.kind r.kind) (eqb d.operand r.operand) 29 30)
      go (inr n) = rw (ne_eqb d.kind r.kind n)
