-- Answer 12: what is asked of a state that came from outside, in the words of documents 01 and 02. Such a state need not be one that a run reaches.
use Rattle.std.specs.Prelude.{Bool, true, not, ◌&&◌, ◌||◌, List, [], ◌∷◌, ℕ, ◌+◌, eqb, leb, ltb, length}
use Rattle.std.proofs.Math.Option.{Option, none, some}
use Rattle.model.specs.Searches.{all, filter, is_empty, up_to, same}
use Rattle.model.specs.Plan.{Plan, threads, valid_plan}
use Rattle.model.specs.Records.{timer_count, Report, is_switch, report, is_thread, allowed}
use Rattle.model.specs.Timers.{Timer, Arming, no_arming, after_arm, after_start, Timers, slot, is_armed, owes_expire}
use Rattle.model.specs.State.{Condition, dormant, ready, asleep, waiting, Hold, State, condition, without_switch}
use Rattle.model.specs.Priorities.{chosen}

-- the greatest tick number, the greatest that a sleeper waits for, and the greatest at which a timer expires
abbrev pub last_tick : ℕ
last_tick = 4000000000

abbrev pub last_wake : ℕ
last_wake = 4000065536

abbrev pub last_expiry : ℕ
last_expiry = 4000065535

-- A number is out of range: a thread or section is not below T or S, a report is not one of this paper's, the tick number is above
-- 4,000,000,000 or a sleeper's above 4,000,065,536.

abbrev pub condition_in_range : (sections : ℕ) → Condition → Bool
condition_in_range sections dormant = true
condition_in_range sections ready = true
condition_in_range sections (asleep n) = leb n last_wake
condition_in_range sections (waiting s) = ltb s sections

abbrev pub are_threads : (threads : ℕ) → List ℕ → Bool
are_threads threads ts = all (λ t. ltb t threads) ts

abbrev pub hold_in_range : (threads sections : ℕ) → Hold → Bool
hold_in_range threads sections h = ltb h.section sections && ltb h.thread threads

abbrev pub numbers_in_range : Plan → State → Bool
numbers_in_range p st =
    leb st.tick_number last_tick
    && is_thread p st.reported
    && all (condition_in_range p.sections) st.conditions
    && are_threads (threads p) st.queue
    && are_threads (threads p) st.waits
    && all (hold_in_range (threads p) p.sections) st.holds

-- Timers are 0 to 7, and expiries at most 4,000,065,535.

abbrev pub arming_in_range : Arming → Bool
arming_in_range no_arming = true
arming_in_range (after_arm i) = ltb i timer_count
arming_in_range (after_start i s) = ltb i timer_count

abbrev pub timer_in_range : Option Timer → Bool
timer_in_range none = true
timer_in_range (some t) = leb t.expiry last_expiry

abbrev pub timers_in_range : Timers → Bool
timers_in_range ts = arming_in_range ts.arming && all timer_in_range ts.slots

-- how many of them pass the test
abbrev pub times : {A : Type 0} → (A → Bool) → List A → ℕ
times f l = length (filter f l)

-- A section is held twice.
abbrev pub held_once : (sections : ℕ) → List Hold → Bool
held_once sections hs = all (λ s. leb (times (λ (h : Hold). eqb h.section s) hs) 1) (up_to sections)

-- how often a thread stands in the line and in the waits: once in the one if it is ready, once in the other if it waits

abbrev pub in_queue : Condition → ℕ
in_queue dormant = 0
in_queue ready = 1
in_queue (asleep n) = 0
in_queue (waiting s) = 0

abbrev pub in_waits : Condition → ℕ
in_waits dormant = 0
in_waits ready = 0
in_waits (asleep n) = 0
in_waits (waiting s) = 1

-- A thread is listed twice in the line or the waits, or is not in exactly one of its four conditions.
abbrev pub stands_once : (queue waits : List ℕ) → Condition → (thread : ℕ) → Bool
stands_once queue waits c t = eqb (times (λ u. eqb u t) queue) (in_queue c) && eqb (times (λ u. eqb u t) waits) (in_waits c)

abbrev pub all_stand_once : Plan → State → Bool
all_stand_once p st = all (λ t. stands_once st.queue st.waits (condition st t) t) (up_to (threads p))

-- The order of Delays doesn't name each sleeper just once and nobody else.

abbrev pub in_delays : Condition → ℕ
in_delays dormant = 0
in_delays ready = 0
in_delays (asleep n) = 1
in_delays (waiting s) = 0

abbrev pub delays_named : Plan → State → Bool
delays_named p st = are_threads (threads p) st.delays && all (λ t. eqb (times (λ u. eqb u t) st.delays) (in_delays (condition st t))) (up_to (threads p))

-- A report is not one of this paper's, or more than T + 9 are due.
abbrev pub due_in_range : Plan → List Report → Bool
due_in_range p due = leb (length due) (threads p + 9) && all (λ d. allowed p (report d)) due

-- The chosen thread isn't the last reported though nothing is due.
abbrev pub shown_at_rest : Plan → State → Bool
shown_at_rest p st = not (is_empty st.due) || same st.reported (chosen p st)

-- A Switch due isn't last.
abbrev pub switch_last : List Report → Bool
switch_last [] = true
switch_last (d ∷ ds) = (not (is_switch d) || is_empty ds) && switch_last ds

-- Reports due but a Switch, sleepers, armed timers owed no Expire, and one together pass T + 9. (The order of Delays names the sleepers.)

abbrev pub owed_none : Timers → List Report → (timer : ℕ) → Bool
owed_none ts due i = is_armed (slot ts i) && not (owes_expire due i)

abbrev pub claims : State → ℕ
claims st = length (without_switch st.due) + length st.delays + times (owed_none st.timers st.due) (up_to timer_count) + 1

-- the machine, whatever is due
unfoldable pub formed_machine : Plan → State → Bool
formed_machine p st = valid_plan p && numbers_in_range p st && timers_in_range st.timers && held_once p.sections st.holds && all_stand_once p st && delays_named p st

-- what is due
unfoldable pub formed_reports : Plan → State → Bool
formed_reports p st = due_in_range p st.due && shown_at_rest p st && switch_last st.due && leb (claims st) (threads p + 9)

-- the answer is not 12
unfoldable pub formed : Plan → State → Bool
formed p st = formed_machine p st && formed_reports p st
