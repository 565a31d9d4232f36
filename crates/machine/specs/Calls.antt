-- What a call and a report ask, and that they answer what one step of the model does.
use Rattle.std.specs.Prelude.{◌≡◌, Result, is_ok, ◌⊎◌, Bool, cond, List, [], ℕ, ◌+◌, ◌%◌, ◌≤◌, ◌<◌, T, eqb}
use Rattle.std.proofs.Math.Option.{some}
use Rattle.model.specs.Records as records
use Rattle.model.specs.State.{asleep}
use Rattle.model.specs.Timers.{Timer, slot, set_timer, late_due}
use Rattle.model.specs.Rules.{stage, call_place, broken}
use Rattle.model.specs.Runs.{moved, broke, step}
use Rattle.model.specs.Formed.{formed, last_tick}
use Rattle.clock.specs.declared.time.Tick.{Tick}
use Rattle.clock.specs.declared.timers.Timers.{Timers}
use Rattle.clock.specs.View as timing
use Rattle.clock.specs.Clauses.{kind_place}
use Rattle.machine.specs.declared.rules.Rule.{Rule}
use Rattle.machine.specs.declared.slots.Slots.{Slots}
use Rattle.machine.specs.declared.Machine.{Machine}
use Rattle.due.specs.declared.made.Made.{Made}
use Rattle.machine.specs.declared.reporting.Reporting.{Reporting}
use Rattle.machine.specs.declared.state.State.{State}
use Rattle.due.specs.Lists.{report_room, Tells}
use Rattle.machine.specs.View.{condition_in, plan_of, idle, view, report_at, shown}
use Rattle.machine.specs.Kept.{kept}
use Rattle.machine.specs.Rules.{rule_number, answer_number, due_rule}
use Rattle.machine.specs.Clauses.{Ceilings, next_event_of}

-- the Switch has a place behind the reports of the array, and nothing else stands apart from it
pub record Apart (c : Reporting) : Type 0 where
  pub apart : (c.due ≡ c.count) ⊎ ((c.due ≡ c.count + 1) × (c.count < report_room))

-- nothing happens before this tick number: nobody wakes and no timer expires; inside an arming it is 0, since every Tick there breaks a rule
pub record QuietUntil (until threads : ℕ) (slots : Slots) (wakes : List Tick) (timers : Timers) : Type 0 where
  pub sleepers' : (t n : ℕ) → t < threads → condition_in slots wakes t ≡ asleep n → until ≤ n
  pub timers' : (i : ℕ) (t : Timer) → slot (timing.view timers) i ≡ some t → until ≤ t.expiry
  pub rests : 0 < until → stage (timing.view timers).arming ≡ 0

abbrev pub Quiet : Machine → (until : ℕ) → Type 0
Quiet m until = QuietUntil until m.plan.threads m.slots m.wakes m.timers

-- what is kept and carried beside the state is what it should be: the owner, the place of the Switch, the tick number before which nothing happens
pub record Stands (c : Reporting) : Type 0 where
  pub keeps : T (kept c.machine)
  pub apart' : Apart c
  pub quiet' : Quiet c.machine c.quiet.0

-- What a record asks: a well-formed state and what is kept and carried beside it (the answer is not 12), an operand that its kind allows, and for a
-- Tick room for the tick number to grow (the answer is not 13).
pub record Asks (c : Reporting) (r : records.Record) : Type 0 where
  pub formed' : T (formed (plan_of c.machine) (shown c))
  pub stands : Stands c
  pub allowed' : T (records.allowed (plan_of c.machine) r)
  pub tick' : r ≡ records.call records.Tick → c.machine.tick.0 < last_tick

-- a call other than Tick with nothing due, where the arming has come to its place
pub record Calls (c : Reporting) (k : records.Call) : Type 0 where
  pub asks : Asks c (records.call k)
  pub undue : c.due ≤ c.given
  pub ordered : stage (timing.view c.machine.timers).arming ≡ call_place k

-- a call that may move a hold, with the ceilings of its plan
pub record Moves (c : Reporting) (ceilings : List ℕ) (k : records.Call) : Type 0 where
  pub calls : Calls c k
  pub ceilings' : Ceilings c.machine ceilings

-- a Tick outside an arming, whatever is due
pub record Ticks (c : Reporting) : Type 0 where
  pub asks : Asks c (records.call records.Tick)
  pub ordered : stage (timing.view c.machine.timers).arming ≡ 0

-- What is answered of a record: what the model's step answers, the state after it with all its reports due, or the broken rule, which leaves
-- the state as it came.
pub record Answers (after c : Reporting) (r : records.Record) : Type 0 where
  pub outcome : cond (eqb after.rule 0) (moved (shown after)) (broke after.rule) ≡ step (plan_of c.machine) (shown c) r
  pub plan' : after.machine.plan ≡ c.machine.plan
  pub stays : (after.rule ≡ 0 → ⊥) → shown after ≡ shown c
  pub stands' : Stands after

-- the tick number before which nothing happens, after a call: asked anew by a Tick, no longer known after a Delay and where timers are set, and kept
-- by every other call
abbrev pub quiet_after : records.Call → (kept : ℕ) → Machine → ℕ
quiet_after (records.Create t) kept m = kept
quiet_after (records.Delay n) kept m = 0
quiet_after records.Relinquish kept m = kept
quiet_after records.End kept m = kept
quiet_after (records.Take s) kept m = kept
quiet_after (records.Give s) kept m = kept
quiet_after records.Tick kept m = next_event_of m
quiet_after (records.Timing k) kept m = 0

-- what a call answers
pub record Called (after c : Reporting) (k : records.Call) : Type 0 where
  pub answers : Answers after c (records.call k)
  pub quiet' : after.quiet.0 ≡ quiet_after k c.quiet.0 after.machine

-- What a call that sets timers found: the rule that it breaks, if any; then the timers as the model sets them, and its Late.
pub record Setting (c : Reporting) (k : records.TimerCall) (timers : Timers) (made : Made) (rule : Result Unit Rule) : Type 0 where
  pub sets : Calls c (records.Timing k)
  pub rule' : answer_number rule ≡ rule_number (broken (plan_of c.machine) (idle c.machine) (records.call (records.Timing k)))
  pub timers' : timing.view timers ≡ cond (is_ok rule) (set_timer k c.machine.tick.0 (timing.view c.machine.timers)) (timing.view c.machine.timers)
  pub made' : Tells made (cond (is_ok rule) (late_due k c.machine.tick.0 (timing.view c.machine.timers)) [])

-- and what it then answers
abbrev pub Timed : (r c : Reporting) → Timers → Made → (rule : Result Unit Rule) → Type 0
Timed r c timers made rule = (k : records.TimerCall) → Setting c k timers made rule → Called r c (records.Timing k)

-- 31: a record of this kind stands where the arming has come to
abbrev pub in_place : Machine → (kind : ℕ) → Bool
in_place m kind = eqb (stage (timing.view m.timers).arming) (kind_place kind)

-- a well-formed state with something due, or a record outside its place
pub record Hearing (c : Reporting) (kind : ℕ) : Type 0 where
  pub formed' : T (formed (plan_of c.machine) (shown c))
  pub due' : T (in_place c.machine kind) → c.given < c.due

-- another rule, and nothing else changed
abbrev pub barred : Reporting → (rule : ℕ) → Reporting
barred c rule = record { machine = c.machine; reports = c.reports; count = c.count; due = c.due; given = c.given; chosen = c.chosen; quiet = c.quiet; rule = rule }

-- 28: a report where none is due
abbrev pub unasked : Reporting → Reporting
unasked c = barred c 28

-- one more report is given, and this thread is the one reported
abbrev pub told : Reporting → (reported : ℕ) → Reporting
told c x =
    let m = c.machine in
    record {
      machine = record { plan = m.plan; tick = m.tick; slots = m.slots; wakes = m.wakes; queue = m.queue; holds = m.holds; waits = m.waits; delays = m.delays; reported = x; timers = m.timers };
      reports = c.reports;
      count = c.count;
      due = c.due;
      given = c.given + 1;
      chosen = c.chosen;
      quiet = c.quiet;
      rule = 0;
    }

-- a record that is heard, by its kind and operand: the first due is given, a Switch given names the thread reported, or a rule is broken
pub record Hears (r c : Reporting) (kind operand : ℕ) : Type 0 where
  pub rule' : r.rule ≡ cond (in_place c.machine kind) (due_rule (report_at c c.given) kind operand) 31
  pub given' : r.rule ≡ 0 → r ≡ told c (cond (eqb kind 17) (operand % 256) c.machine.reported)
  pub barred' : (r.rule ≡ 0 → ⊥) → r ≡ barred c r.rule

-- as it is lent
pub record Closes (r : State) (c : Reporting) : Type 0 where
  pub machine' : r.machine ≡ c.machine
  pub seen : view r ≡ shown c
