-- What the calls that set timers share: they leave a machine with other timers, and the same thread chosen.
use mathlib.Core.Path.{◌≡◌, refl, ap, sym, ◌∙◌}
use mathlib.Core.Logic.{◌⊎◌, inl, inr}
use mathlib.Core.Bool.{Bool, true, false, cond}
use mathlib.Core.List.{List, []}
use lib.Dec.{T}
use Rattle.std.specs.Prelude.{Result, is_ok}
use Rattle.model.specs.Plan as plan
use Rattle.model.specs.Records as records
use Rattle.model.specs.Records.{TimerCall, Timing}
use Rattle.model.specs.Timers as model
use Rattle.model.specs.Timers.{set_timer, late_due}
use Rattle.model.specs.State as state
use Rattle.model.specs.Priorities.{greatest_hold, current, chosen}
use Rattle.model.specs.Calls as calls
use Rattle.plan.specs.View as plans
use Rattle.lists.specs.Lists.{numbered}
use Rattle.clock.specs.declared.timers.Timers.{Timers}
use Rattle.clock.specs.View as timing
use Rattle.machine.specs.declared.rules.Rule.{Rule}
use Rattle.machine.specs.declared.Machine.{Machine}
use Rattle.due.specs.declared.reports.Reports.{Reports}
use Rattle.due.specs.declared.made.Made.{Made}
use Rattle.machine.specs.declared.reporting.Reporting.{Reporting}
use Rattle.due.specs.Lists.{owed, Tells}
use Rattle.machine.specs.View.{plan_of, viewed, idle}
use Rattle.machine.specs.Kept.{kept}
use Rattle.machine.specs.Clauses.{owing}
use Rattle.machine.specs.Calls.{Calls, Called}
use Rattle.machine.specs.Rules.{answer_number}
use Rattle.machine.proofs.Answered.{yes_or_no}
use Rattle.machine.proofs.Admitted.{asked, Makes}
use Rattle.machine.proofs.Quieted.{unknown_quiet}
use Rattle.machine.proofs.Switched.{chosen_due}
use Rattle.machine.proofs.Outcomes.{caller_asked, call_answers}

-- a machine with other timers
abbrev pub retimed : Machine → Timers → Machine
retimed m ts = record { plan = m.plan; tick = m.tick; slots = m.slots; wakes = m.wakes; queue = m.queue; holds = m.holds; waits = m.waits; delays = m.delays; reported = m.reported; timers = ts }

-- with other timers and reports it stands for this state
seen_so : (m : Machine) (ts : Timers) (rs : Reports) {to : model.Timers} {due : List records.Report} → timing.view ts ≡ to → owed rs ≡ due → viewed (retimed m ts) (owed rs) ≡ state.set_timers to (viewed m due)
seen_so m ts rs e d = λ i. state.set_timers (e i) (viewed m (d i))

-- it is what the model's call makes, or where a rule is broken the machine as it came
pub sets : (m : Machine) → T (kept m) → (k : TimerCall) (ts : Timers) (rs : Reports) {rule : Result Unit Rule} → answer_number rule ≡ asked m (Timing k)
    → timing.view ts ≡ cond (is_ok rule) (set_timer k m.tick.0 (timing.view m.timers)) (timing.view m.timers)
    → owed rs ≡ cond (is_ok rule) (late_due k m.tick.0 (timing.view m.timers)) []
    → Makes (retimed m ts) rs rule m (Timing k)
unfolding calls.timing
sets m t k ts rs {rule} r e d =
    record {
      plan' = refl;
      rule' = r;
      made = λ z. seen_so m ts rs (rw z at e) (rw z at d);
      stays = λ n. seen_so m ts rs (rw n at e) (rw n at d);
      keeps = t;
    }

-- of a call that owes no Late nothing is due, whatever its rule
pub no_late : {made : Made} → Tells made [] → (b : Bool) → Tells made (cond b [] [])
no_late t true = t
no_late t false = t

-- the chosen thread does not depend on timers
chosen_timed : (p : plan.Plan) (k : TimerCall) (st : state.State) → chosen p (calls.timing k st) ≡ chosen p st
unfolding chosen current greatest_hold calls.timing
chosen_timed p k st = refl

module _ {c : Reporting} {k : TimerCall} (a : Calls c (Timing k)) {left : Machine} {rs : Reports} {rule : Result Unit Rule} (made : Makes left rs rule c.machine (Timing k)) where
  still_chosen : chosen (plan_of left) (idle left) ≡ chosen (plan_of c.machine) (idle c.machine)
  still_chosen = sym (chosen_due (plan_of left) left (owed rs)) ∙ ap (λ (p : plan.Plan). chosen p (viewed left (owed rs))) (ap plans.view made.plan') ∙ go (yes_or_no (is_ok rule))
    where
      go : (is_ok rule ≡ true) ⊎ (is_ok rule ≡ false) → chosen (plan_of c.machine) (viewed left (owed rs)) ≡ chosen (plan_of c.machine) (idle c.machine)
      go (inl z) = ap (chosen (plan_of c.machine)) (made.made z) ∙ chosen_timed (plan_of c.machine) k (idle c.machine)
      go (inr d) = ap (chosen (plan_of c.machine)) (made.stays d)

  -- what is answered: the chosen thread is still the one reported, and what happens next is no longer known
  pub timer_answers : Called (owing left rs rule c.machine.reported (record { 0 = 0 })) c (Timing k)
  timer_answers = record { answers = call_answers a made ((caller_asked a).caller' ∙ ap numbered (sym still_chosen)) (unknown_quiet left); quiet' = refl }
