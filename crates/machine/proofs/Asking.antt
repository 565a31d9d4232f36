-- The rule functions answer what the model asks of each call with nothing due; where the answer is 0, what the call's rules say holds.
use mathlib.Core.Path.{◌≡◌, refl, ap, sym, subst, ◌∙◌}
use mathlib.Core.Bool.{Bool, true, cond, ◌||◌}
use mathlib.Core.List.{List}
use mathlib.Core.Option.{Option, none, some}
use Prim.Native.Nat.{ℕ, ◌<◌}
use native.Mathlib.Omega.{arith}
use borrow.Author.Tests.{eq-eqb}
use lib.Dec.{T}
use Rattle.model.specs.Searches.{same}
use Rattle.model.specs.Plan.{may_take}
use Rattle.model.specs.Records as records
use Rattle.model.specs.Records.{TimerCall, Call, call, is_tick}
use Rattle.model.specs.State.{condition}
use Rattle.model.specs.Priorities.{chosen}
use Rattle.model.specs.Rules.{first_no, is_somebody, ask_caller, holds_not, last_taken, stage, call_place, later_questions, broken}
use Rattle.model.proofs.Tests.{is_true, or_right, same_eq}
use Rattle.model.proofs.Laws.{chosen_is, AllYes, somebody, dormant_is}
use Rattle.machine.specs.declared.Machine.{Machine}
use Rattle.lists.specs.Lists.{numbered, held}
use Rattle.machine.specs.View.{plan_of, viewed, idle}
use Rattle.machine.specs.Rules.{rule_number, run_rule, free_rule, create_rule, take_rule, give_rule, cancel_rule}
use Rattle.machine.proofs.Admitted.{CreateAsked, Asked, SectionAsked, TickAsked, Creates, Runs, Takes, Gives, asked}
use Rattle.machine.proofs.Facts.{facts}
use Rattle.machine.proofs.Room.{queued_known}
use Rattle.machine.proofs.Unbroken.{yes_to_all}
use Rattle.machine.proofs.Questions.{number, later, order_asked, first_asked, create_asked, run_asked, free_asked, take_asked, give_asked, cancel_asked}

-- in its place and with nothing due, what is asked of a call is what stands behind 31 and 21
behind : (m : Machine) (k : Call) → stage (idle m).timers.arming ≡ call_place k → asked m k ≡ number (later (plan_of m) (idle m) k)
behind m k o =
    ap rule_number
    (order_asked (plan_of m) (idle m) (call k)
    ∙ ap (λ b. cond b (first_no (later_questions (plan_of m) (idle m) (call k))) (some 31)) (eq-eqb (stage (idle m).timers.arming) (call_place k) o)
    ∙ first_asked (plan_of m) (idle m) k
    ∙ ap (λ b. cond b (first_no (later (plan_of m) (idle m) k)) (some 21)) (is_true (is_tick k || true) (or_right (is_tick k) true tt)))

yes : (m : Machine) (k : Call) → asked m k ≡ 0 → AllYes (later_questions (plan_of m) (idle m) (call k))
yes m k z = (yes_to_all (plan_of m) (idle m) (call k) z).1

-- of a Tick nothing but 31 is asked, whatever is due
pub tick_rule : {m : Machine} → TickAsked m → (due : List records.Report) → 0 ≡ rule_number (broken (plan_of m) (viewed m due) (call records.Tick))
tick_rule {m} t due =
    sym (ap rule_number (order_asked (plan_of m) (viewed m due) (call records.Tick) ∙ ap (λ b. cond b none (some 31)) (eq-eqb (stage (idle m).timers.arming) 0 t.ordered)))

pub create_rule_lem : {m : Machine} {t : ℕ} → CreateAsked m t → create_rule m.slots t ≡ asked m (records.Create t)
create_rule_lem {m} {t} a = create_asked m.plan.threads m.slots m.wakes t a.known ∙ sym (behind m (records.Create t) a.ordered)

pub creates : {m : Machine} {t : ℕ} → CreateAsked m t → asked m (records.Create t) ≡ 0 → Creates m t
creates {m} {t} a z = record { formed = a.formed; known = a.known; dormant' = dormant_is (condition (idle m) t) (yes m (records.Create t) z).1.0 }

module _ {m : Machine} {x place : ℕ} (a : Asked m x place) where
  abbrev runner : Option ℕ
  runner = chosen (plan_of m) (idle m)

  known : (t : ℕ) → runner ≡ some t → t < 16
  known t e = let f = facts a.formed in omega (arith, queued_known f t (chosen_is (plan_of m) (idle m) t e).0, f.fits.threads)

  free_rule_lem : (k : Call) → place ≡ call_place k → number (later (plan_of m) (idle m) k) ≡ number (later (plan_of m) (idle m) records.End) → free_rule m.holds x ≡ asked m k
  free_rule_lem k o e = ap (free_rule m.holds) a.caller' ∙ free_asked runner known m.holds ∙ sym e ∙ sym (behind m k (a.ordered ∙ o))

  run_rule_lem : (k : Call) → place ≡ call_place k → number (later (plan_of m) (idle m) k) ≡ number (later (plan_of m) (idle m) records.Relinquish) → run_rule x ≡ asked m k
  run_rule_lem k o e = ap run_rule a.caller' ∙ run_asked runner known ∙ sym e ∙ sym (behind m k (a.ordered ∙ o))

  -- a caller is the chosen thread, whose number came
  pub runs : T (is_somebody runner) → Runs m x
  runs t = let r = somebody runner t in record { formed = a.formed; chosen' = r.1 ∙ ap some (sym (a.caller' ∙ ap numbered r.1)) }

  -- what is asked of the caller
  pub of_caller : (f : ℕ → Bool) → T (is_somebody runner) → T (ask_caller runner f) → T (f x)
  of_caller f t b = subst (λ (o : Option ℕ). T (ask_caller o f)) (runs t).chosen' b

  pub sets : (k : TimerCall) → asked m (records.Timing k) ≡ 0 → Runs m x
  sets k z = runs (yes m (records.Timing k) z).1.0

  pub delays : (n : ℕ) → asked m (records.Delay n) ≡ 0 → Runs m x
  delays n z = runs (yes m (records.Delay n) z).1.0

  pub ends : asked m records.End ≡ 0 → Runs m x
  ends z = runs (yes m records.End z).1.0

  pub relinquishes : asked m records.Relinquish ≡ 0 → Runs m x
  relinquishes z = runs (yes m records.Relinquish z).1.0

-- the rules of calls outside an arming
module _ {m : Machine} {x : ℕ} (a : Asked m x 0) where
  pub delay_rule : (n : ℕ) → free_rule m.holds x ≡ asked m (records.Delay n)
  delay_rule n = free_rule_lem a (records.Delay n) refl refl

  pub end_rule : free_rule m.holds x ≡ asked m records.End
  end_rule = free_rule_lem a records.End refl refl

  pub relinquish_rule : run_rule x ≡ asked m records.Relinquish
  relinquish_rule = run_rule_lem a records.Relinquish refl refl

  pub arm_rule : (i : ℕ) → run_rule x ≡ asked m (records.Timing (records.Arm i))
  arm_rule i = run_rule_lem a (records.Timing (records.Arm i)) refl refl

  pub cancel_rule_lem : (i : ℕ) → cancel_rule m.timers x i ≡ asked m (records.Timing (records.Cancel i))
  cancel_rule_lem i = ap (λ y. cancel_rule m.timers y i) a.caller' ∙ cancel_asked (runner a) (known a) m.timers i ∙ sym (behind m (records.Timing (records.Cancel i)) a.ordered)

-- and within one
pub start_rule : {m : Machine} {x : ℕ} → Asked m x 1 → (n : ℕ) → run_rule x ≡ asked m (records.Timing (records.Start n))
start_rule a n = run_rule_lem a (records.Timing (records.Start n)) refl refl

pub period_rule : {m : Machine} {x : ℕ} → Asked m x 2 → (n : ℕ) → run_rule x ≡ asked m (records.Timing (records.Period n))
period_rule a n = run_rule_lem a (records.Timing (records.Period n)) refl refl

module _ {m : Machine} {x s : ℕ} (a : SectionAsked m x s) where
  pub take-rule : take_rule m.plan.threads m.plan.needs m.holds x s ≡ asked m (records.Take s)
  take-rule =
      ap (λ y. take_rule m.plan.threads m.plan.needs m.holds y s) a.asked.caller'
      ∙ take_asked (runner a.asked) (known a.asked) m.plan.threads m.plan.needs m.holds s
      ∙ sym (behind m (records.Take s) a.asked.ordered)

  pub give_rule_lem : give_rule m.holds x s ≡ asked m (records.Give s)
  give_rule_lem =
      ap (λ y. give_rule m.holds y s) a.asked.caller'
      ∙ give_asked (runner a.asked) (known a.asked) m.holds s (omega (arith, a.known, (facts a.asked.formed).fits.sections))
      ∙ sym (behind m (records.Give s) a.asked.ordered)

  pub takes : asked m (records.Take s) ≡ 0 → Takes m x s
  takes z =
      let q = (yes m (records.Take s) z).1 in
      record {
        runs = runs a.asked q.0;
        known = a.known;
        needs = of_caller a.asked (λ y. may_take (plan_of m) y s) q.0 q.1.0;
        lacks = of_caller a.asked (holds_not (held m.holds) s) q.0 q.1.1.0;
      }

  pub gives : asked m (records.Give s) ≡ 0 → Gives m x s
  gives z =
      let q = (yes m (records.Give s) z).1 in
      record {
        runs = runs a.asked q.0;
        last = same_eq (last_taken (held m.holds) x) (some s) (of_caller a.asked (λ y. same (last_taken (held m.holds) y) (some s)) q.0 q.1.0);
      }
