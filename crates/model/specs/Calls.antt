-- What each call does, in the order of document 01.
use Rattle.std.specs.Prelude.{Bool, false, cond, not, ◌&&◌, List, [], ◌∷◌, ◌++◌, map, ℕ, suc, ◌+◌, ltb, eqb}
use Rattle.std.proofs.Math.Option.{Option, none, some}
use Rattle.model.specs.Searches.{◌▷◌, all, any, filter, first_greatest, same}
use Rattle.model.specs.Plan.{Plan, base}
use Rattle.model.specs.Records.{Call, Create, Delay, Relinquish, End, Take, Give, Tick, Timing, TimerCall, Ready, Switch, Won, Lost, Yield, Expire}
use Rattle.model.specs.Timers.{set_timer, late_due, expired, move_on}
use Rattle.model.specs.State.{Condition, dormant, ready, asleep, waiting, Hold, State, condition, last_reported, set_tick_number, becomes, leave_queue, join_queue, arrive, join_waits, leave_waits, begin_hold, end_hold, drop_switch, owe, set_delays, join_delays, set_timers}
use Rattle.model.specs.Priorities.{held_ceiling, current, chosen}

-- Create (1), thread: it becomes ready at the line's end. Ready due.
unfoldable pub create : (thread : ℕ) → State → State
create t st = st ▷ arrive (t ∷ []) ▷ owe (Ready t ∷ [])

abbrev pub sleeps_until : (number : ℕ) → Condition → Bool
sleeps_until n dormant = false
sleeps_until n ready = false
sleeps_until n (asleep m) = eqb m n
sleeps_until n (waiting s) = false

-- the sleepers whose tick number this is, in the order of their Delay calls
abbrev pub sleepers : (number : ℕ) → State → List ℕ
sleepers n st = filter (λ t. sleeps_until n (condition st t)) st.delays

-- those that sleep on
abbrev pub still_asleep : (number : ℕ) → State → List ℕ
still_asleep n st = filter (λ t. not (sleeps_until n (condition st t))) st.delays

-- Tick (7): the tick number grows by one. Sleepers whose tick number this is become ready, in the order of their Delay calls. Ready due for each.
-- Expire (21, timer) is due at its tick before any Ready, lower timer first. Tick is admitted with reports due: a Switch still due is dropped, and the
-- tick's Expire and Ready reports join the end.
unfoldable pub tick : State → State
tick st =
    let n = suc st.tick_number in
    let woken = sleepers n st in
    let ended = expired n st.due st.timers in
    st ▷ drop_switch ▷ set_tick_number n ▷ set_timers (move_on n st.timers) ▷ set_delays (still_asleep n st) ▷ arrive woken ▷ owe (map Expire ended ++ map Ready woken)

-- Delay (2), n from 1: the caller sleeps until tick number + n + 1. (A tick number and a number of ticks to wait are separate units:
-- only number plus wait gives a number, here and where a timer expires.)
unfoldable pub delay : (caller ticks : ℕ) → State → State
delay x n st = st ▷ leave_queue x ▷ becomes (asleep (st.tick_number + n + 1)) x ▷ join_delays x

-- Relinquish (3): if another ready thread has the caller's current priority, the caller goes to the line's end, Yield due; else nothing.
abbrev pub rivalled : Plan → (caller : ℕ) → State → Bool
rivalled p x st = any (λ t. not (eqb t x) && eqb (current p st t) (current p st x)) st.queue

unfoldable pub relinquish : Plan → (caller : ℕ) → State → State
relinquish p x st = cond (rivalled p x st) (st ▷ leave_queue x ▷ join_queue x ▷ owe (Yield x ∷ [])) st

-- End (4): the caller becomes dormant.
unfoldable pub end : (caller : ℕ) → State → State
end x st = st ▷ leave_queue x ▷ becomes dormant x

-- a thread's base priority is above every ceiling of these holds
abbrev pub above_all : Plan → (thread : ℕ) → List Hold → Bool
above_all p t hs = all (λ h. ltb (held_ceiling p h) (base p t)) hs

abbrev pub held_by_others : (thread : ℕ) → List Hold → List Hold
held_by_others t hs = filter (λ h. not (eqb h.thread t)) hs

-- Take (5), section: the caller wins if its base priority is above every ceiling held by others. It then holds the section, Won due.
-- Otherwise it leaves the line and waits, Lost due.
unfoldable pub take : Plan → (caller section : ℕ) → State → State
take p x s st =
    cond (above_all p x (held_by_others x st.holds))
    (st ▷ begin_hold s x ▷ owe (Won x ∷ []))
    (st ▷ leave_queue x ▷ becomes (waiting s) x ▷ join_waits x ▷ owe (Lost x ∷ []))

-- the section that a waiting thread wanted
abbrev pub wanted : Condition → ℕ
wanted dormant = 0
wanted ready = 0
wanted (asleep n) = 0
wanted (waiting s) = s

-- If any thread waits, take the one of greatest base, on a tie the longest waiting.
abbrev pub heir : Plan → State → Option ℕ
heir p st = first_greatest (base p) st.waits

-- If its base is above every ceiling still held, it holds the section it wanted and is ready at the line's end: Won then Ready due.
-- Otherwise Lost due, naming that waiting thread.
abbrev pub hand_over : Plan → Option ℕ → State → State
hand_over p none st = st
hand_over p (some w) st =
    cond (above_all p w st.holds)
    (st ▷ leave_waits w ▷ begin_hold (wanted (condition st w)) w ▷ arrive (w ∷ []) ▷ owe (Won w ∷ Ready w ∷ []))
    (st ▷ owe (Lost w ∷ []))

-- Give (6), section: the hold ends. Then it is handed over as above.
unfoldable pub give : Plan → (caller section : ℕ) → State → State
give p x s st = st ▷ end_hold s x ▷ hand_over p (heir p st)

-- Arm (8), Start (9), Period (10) and Cancel (11) set the timers. Late due after Period.
unfoldable pub timing : TimerCall → State → State
timing k st = st ▷ set_timers (set_timer k st.tick_number st.timers) ▷ owe (late_due k st.tick_number st.timers)

-- After each call, if the chosen thread isn't the one last reported, Switch to it is due last, and it counts as reported.
unfoldable pub switch : Plan → State → State
switch p st = cond (same (last_reported st) (chosen p st)) st (st ▷ owe (Switch (chosen p st) ∷ []))

-- Calls are made by the running thread, which with no report due is the chosen one. With nobody there is no such call (rule 22).
abbrev pub by_caller : Option ℕ → (ℕ → State → State) → State → State
by_caller none act st = st
by_caller (some x) act st = act x st

abbrev pub perform : Plan → Call → State → State
perform p (Create t) st = create t st
perform p (Delay n) st = by_caller (chosen p st) (λ x. delay x n) st
perform p Relinquish st = by_caller (chosen p st) (relinquish p) st
perform p End st = by_caller (chosen p st) end st
perform p (Take s) st = by_caller (chosen p st) (λ x. take p x s) st
perform p (Give s) st = by_caller (chosen p st) (λ x. give p x s) st
perform p Tick st = tick st
perform p (Timing k) st = timing k st
