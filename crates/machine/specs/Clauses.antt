-- What the machine's functions other than the calls ask and answer.
use Rattle.std.specs.Prelude.{◌≡◌, Result, is_ok, Bool, cond, not, ◌&&◌, ℕ, ◌+◌, min, ◌≤◌, ◌<◌, T, eqb, leb, ltb, length}
use mathlib.Core.List.{List, [], ◌∷◌, ◌++◌, map, tail, Memᴰ as Mem}
use Rattle.model.specs.Searches.{filter, up_to}
use Rattle.model.specs.Plan as plan
use Rattle.model.specs.State as state
use Rattle.model.specs.Timers.{is_complete}
use Rattle.model.specs.Runs.{deliver}
use Rattle.model.specs.Formed.{formed, last_wake}
use Rattle.plan.specs.View as plans
use Rattle.plan.specs.declared.Plan.{Plan}
use Rattle.lists.specs.declared.queue.Queue.{Queue}
use Rattle.lists.specs.declared.holds.Holds.{Holds}
use Rattle.lists.specs.Words.{with_nibble}
use Rattle.lists.specs.Lists.{queued}
use Rattle.clock.specs.declared.time.Tick.{Tick}
use Rattle.clock.specs.declared.timers.Timers.{Timers}
use Rattle.clock.specs.View as timing
use Rattle.clock.specs.View.{number_at}
use Rattle.clock.specs.Clauses.{soonest as soonest_expiry}
use Rattle.machine.specs.declared.Machine.{Machine}
use Rattle.machine.specs.declared.rules.Rule.{Rule}
use Rattle.machine.specs.declared.slots.Slots.{Slots}
use Rattle.machine.specs.declared.slots.Condition.{Condition}
use Rattle.machine.specs.declared.slots.Condition.TheVariants.{Dormant, Ready, Asleep, Waits}
use Rattle.machine.specs.declared.sleepers.Woken.{Woken}
use Rattle.due.specs.declared.reports.Report.{Report}
use Rattle.due.specs.declared.reports.Reports.{Reports}
use Rattle.machine.specs.declared.reporting.Reporting.{Reporting}
use Rattle.machine.specs.declared.state.State.{State}
use Rattle.due.specs.Lists.{report_of, IsReport}
use Rattle.machine.specs.View.{plan_of, idle, view}
use Rattle.machine.specs.Kept.{kept}
use Rattle.machine.specs.Rules.{answer_number}

-- the number of a condition: see View, condition_of
abbrev pub state_of : Condition → ℕ
state_of Dormant = 0
state_of Ready = 1
state_of Asleep = 2
state_of Waits = 3

-- a thread comes into another condition, or waits for a section

abbrev pub placed : Slots → (thread state : ℕ) → Slots
placed s t k = record { states = with_nibble s.states t k; wants = s.wants }

abbrev pub waits_for : Slots → (thread section : ℕ) → Slots
waits_for s t n = record { states = with_nibble s.states t 3; wants = with_nibble s.wants t n }

-- these threads become ready
abbrev pub all_placed : List ℕ → Slots → Slots
all_placed [] s = s
all_placed (t ∷ ts) s = all_placed ts (placed s t 1)

-- whose tick number this is, by the numbers that the sleepers wait for
abbrev pub wakes_at : (wakes : List Tick) (number thread : ℕ) → Bool
wakes_at wakes n t = eqb (number_at wakes t) n

-- what a Tick leaves of the threads: the sleepers whose tick number this is are ready at the queue's end, the others sleep on
pub record Wakes (r : Woken) (delays : Queue) (wakes : List Tick) (number : ℕ) (slots : Slots) (queue : Queue) : Type 0 where
  pub slots' : r.slots ≡ all_placed (filter (wakes_at wakes number) (queued delays)) slots
  pub queue' : queued r.queue ≡ queued queue ++ filter (wakes_at wakes number) (queued delays)
  pub delays' : queued r.delays ≡ filter (λ t. not (wakes_at wakes number t)) (queued delays)
  pub woken' : queued r.woken ≡ filter (wakes_at wakes number) (queued delays)

-- the least tick number that one of these sleepers waits for, last_wake where nobody sleeps before it
abbrev pub soonest : (wakes : List Tick) (delays : List ℕ) → ℕ
soonest wakes [] = last_wake
soonest wakes (t ∷ ts) = min (number_at wakes t) (soonest wakes ts)

-- The tick number before which nobody wakes and no timer expires. Inside an arming every Tick breaks a rule, so it is 0 there.
abbrev pub next_event : (delays : Queue) (wakes : List Tick) → Timers → ℕ
next_event delays wakes timers = cond (is_complete (timing.view timers).arming) (min (soonest wakes (queued delays)) (soonest_expiry (timing.view timers).slots)) 0

abbrev pub next_event_of : Machine → ℕ
next_event_of m = next_event m.delays m.wakes m.timers

-- the counts are within the words
pub record Counts (queue : Queue) (holds : Holds) (waits : Queue) : Type 0 where
  pub queue' : queue.count ≤ 16
  pub holds' : holds.count ≤ 16
  pub waits' : waits.count ≤ 16

-- the lists are within their words, and those in the queue and in the waits are threads
pub record Listed (threads : ℕ) (queue : Queue) (holds : Holds) (waits : Queue) : Type 0 where
  pub threads' : threads ≤ 16
  pub counts : Counts queue holds waits
  pub known : (t : ℕ) → Mem t (queued queue) → t < threads
  pub waiting' : (t : ℕ) → Mem t (queued waits) → t < threads

-- the ceilings of the machine's plan, computed once and passed beside it
abbrev pub Ceilings : Machine → List ℕ → Type 0
Ceilings m ceilings = ceilings ≡ map (plan.ceiling (plan_of m)) (up_to 16)

-- what finding the chosen thread asks: a valid plan, lists that name its threads, and the owner kept
pub record Chooses (m : Machine) : Type 0 where
  pub valid : T (plan.valid_plan (plan_of m))
  pub listed : Listed m.plan.threads m.queue m.holds m.waits
  pub keeps : T (kept m)

-- a machine at its start, and with nothing due

pub record Starts (r : Machine) (p : Plan) : Type 0 where
  pub plan' : r.plan ≡ p
  pub seen : idle r ≡ state.start (plans.view p)
  pub keeps : T (kept r)

pub record Fresh (r : State) (p : Plan) : Type 0 where
  pub plan' : r.machine.plan ≡ p
  pub seen : view r ≡ state.start (plans.view p)
  pub keeps : T (kept r.machine)

-- a well-formed state with something due
pub record Owes (s : State) : Type 0 where
  pub formed' : T (formed (plan_of s.machine) (view s))
  pub due' : 0 < length (view s).due

pub record FirstDue (r : Report) (s : State) : Type 0 where
  pub kind' : IsReport r
  pub first : (view s).due ≡ report_of r ∷ tail (view s).due

-- a report is given: a Switch given names the thread reported
pub record Delivers (r s : State) (given : Report) : Type 0 where
  pub plan' : r.machine.plan ≡ s.machine.plan
  pub seen : view r ≡ deliver (report_of given) (view s)
  pub holds' : r.machine.holds ≡ s.machine.holds

-- a state to be moved on from: all its reports stand in the array, so that no Switch to a chosen thread stands apart
abbrev pub opened : State → Reporting
opened s = record { machine = s.machine; reports = s.due.items; count = s.due.count; due = s.due.count; given = s.given; chosen = 255; quiet = record { 0 = 0 }; rule = 0 }

-- A machine with these reports due, and a Switch behind them where the chosen thread is not the one reported. Where a rule is broken there is
-- none.
abbrev pub owing : Machine → Reports → (rule : Result Unit Rule) → (chosen : ℕ) → Tick → Reporting
owing m rs rule x quiet =
    record {
      machine = m;
      reports = rs.items;
      count = rs.count;
      due = cond (is_ok rule && not (eqb x m.reported)) (rs.count + 1) rs.count;
      given = 0;
      chosen = x;
      quiet = quiet;
      rule = answer_number rule;
    }

-- after a Tick at which nothing happens the tick number has grown by one, and nothing else has changed

abbrev pub next_tick : Machine → Machine
next_tick m = record { plan = m.plan; tick = record { 0 = m.tick.0 + 1 }; slots = m.slots; wakes = m.wakes; queue = m.queue; holds = m.holds; waits = m.waits; delays = m.delays; reported = m.reported; timers = m.timers }

abbrev pub passed : Reporting → Reporting
passed c =
    record {
      machine = next_tick c.machine;
      reports = c.reports;
      count = c.count;
      due = c.due;
      given = c.given;
      chosen = c.chosen;
      quiet = c.quiet;
      rule = c.rule;
    }

abbrev pub later : State → State
later s = record { machine = next_tick s.machine; due = s.due; given = s.given }

-- in a state nothing is due, no arming is in progress, and no timer and no sleeper has the next tick number or an earlier one
abbrev pub still : State → Bool
still s =
    let m = s.machine in
    let n = m.tick.0 + 1 in
    leb s.due.count s.given && is_complete (timing.view m.timers).arming && ltb n (soonest_expiry (timing.view m.timers).slots) && ltb n (soonest m.wakes (queued m.delays))
