-- Which state of the model a machine stands for.
use Rattle.std.specs.Prelude.{cond, List, [], map, ℕ, eqb, ltb, get_or, drop}
use Rattle.model.specs.Searches.{up_to}
use Rattle.model.specs.Plan as plan
use Rattle.model.specs.State as state
use Rattle.model.specs.State.{Condition, dormant, ready, asleep, waiting}
use Rattle.model.specs.Records as records
use Rattle.plan.specs.View as plans
use Rattle.lists.specs.Words.{nibble}
use Rattle.lists.specs.Lists.{queued, held}
use Rattle.clock.specs.declared.time.Tick.{Tick}
use Rattle.clock.specs.View as timing
use Rattle.clock.specs.View.{number_at}
use Rattle.machine.specs.declared.slots.Slots.{Slots}
use Rattle.machine.specs.declared.Machine.{Machine}
use Rattle.machine.specs.declared.state.State.{State}
use Rattle.due.specs.declared.reports.Report.{Report}
use Rattle.due.specs.declared.reports.Reports.{Reports}
use Rattle.machine.specs.declared.reporting.Reporting.{Reporting}
use Rattle.due.specs.Lists.{thread_of, no_report, switch_to, listed, owed}

-- a condition by its number: 0 dormant, 1 ready, 2 asleep until a tick number, 3 waiting for a section. Any other number stands for a wait
-- for a section that no plan has, so that answer 12 is a question about the state alone.
abbrev pub condition_of : (state want wake : ℕ) → Condition
condition_of s n w = cond (eqb s 0) dormant (cond (eqb s 1) ready (cond (eqb s 2) (asleep w) (cond (eqb s 3) (waiting n) (waiting 255))))

-- the condition of a thread
abbrev pub condition_in : Slots → (wakes : List Tick) (thread : ℕ) → Condition
condition_in s wakes t = condition_of (nibble s.states t) (nibble s.wants t) (number_at wakes t)

-- one for each thread
abbrev pub conditions_of : (threads : ℕ) → Slots → (wakes : List Tick) → List Condition
conditions_of threads s wakes = map (condition_in s wakes) (up_to threads)

abbrev pub plan_of : Machine → plan.Plan
plan_of m = plans.view m.plan

-- the state that a machine stands for, with these reports due
abbrev pub viewed : Machine → List records.Report → state.State
viewed m due =
    record {
      tick_number = m.tick.0;
      conditions = conditions_of m.plan.threads m.slots m.wakes;
      queue = queued m.queue;
      holds = held m.holds;
      waits = queued m.waits;
      delays = queued m.delays;
      reported = thread_of m.reported;
      due = due;
      timers = timing.view m.timers;
    }

-- with nothing due, as it is at every call but Tick
abbrev pub idle : Machine → state.State
idle m = viewed m []

-- the reports still due are those behind the ones given
abbrev pub view : State → state.State
view s = viewed s.machine (drop s.given (owed s.due))

-- the reports of the array
abbrev pub reports_in : Reporting → Reports
reports_in c = record { items = c.reports; count = c.count }

-- Of a machine with its reports: those of the array, and behind them the Switch to the chosen thread, as far as they are due.
abbrev pub report_at : Reporting → (place : ℕ) → Report
report_at c i = cond (ltb i c.count) (get_or c.reports i no_report) (switch_to c.chosen)

abbrev pub shown : Reporting → state.State
shown c = viewed c.machine (drop c.given (listed (report_at c) c.due))
