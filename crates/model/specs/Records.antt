-- The records of a dump: calls and reports, with the papers' kind numbers, and the operands that question 8 allows.
use Rattle.std.specs.Prelude.{Bool, true, false, cond, ◌&&◌, ℕ, eqb, leb, ltb}
use Rattle.std.proofs.Math.Option.{Option, none, some}
use Rattle.model.specs.Searches.{same}
use Rattle.model.specs.Plan.{Plan, threads}

-- eight timers, 0 to 7
abbrev pub timer_count : ℕ
timer_count = 8

-- the calls that set timers: Arm, Start and Period arm one
pub data TimerCall : Type 0 where
  Arm : (timer : ℕ) → TimerCall
  Start : (number : ℕ) → TimerCall
  Period : (ticks : ℕ) → TimerCall
  Cancel : (timer : ℕ) → TimerCall

pub data Call : Type 0 where
  Create : (thread : ℕ) → Call
  Delay : (ticks : ℕ) → Call
  Relinquish : Call
  End : Call
  Take : (section : ℕ) → Call
  Give : (section : ℕ) → Call
  Tick : Call
  Timing : TimerCall → Call

-- Each names the thread concerned, Expire the timer and Late the count lost; Switch to nobody is `Switch none`.
pub data Report : Type 0 where
  Ready : (thread : ℕ) → Report
  Switch : (thread : Option ℕ) → Report
  Won : (thread : ℕ) → Report
  Lost : (thread : ℕ) → Report
  Yield : (thread : ℕ) → Report
  Expire : (timer : ℕ) → Report
  Late : (count : ℕ) → Report

pub data Record : Type 0 where
  call : Call → Record
  report : Report → Record

abbrev pub timer_kind : TimerCall → ℕ
timer_kind (Arm i) = 8
timer_kind (Start n) = 9
timer_kind (Period n) = 10
timer_kind (Cancel i) = 11

abbrev pub call_kind : Call → ℕ
call_kind (Create t) = 1
call_kind (Delay n) = 2
call_kind Relinquish = 3
call_kind End = 4
call_kind (Take s) = 5
call_kind (Give s) = 6
call_kind Tick = 7
call_kind (Timing k) = timer_kind k

abbrev pub report_kind : Report → ℕ
report_kind (Ready t) = 16
report_kind (Switch w) = 17
report_kind (Won t) = 18
report_kind (Lost t) = 19
report_kind (Yield t) = 20
report_kind (Expire i) = 21
report_kind (Late n) = 22

-- the operand of a report; nobody's is none
abbrev pub operand : Report → Option ℕ
operand (Ready t) = some t
operand (Switch w) = w
operand (Won t) = some t
operand (Lost t) = some t
operand (Yield t) = some t
operand (Expire i) = some i
operand (Late n) = some n

-- as a dump has it: Switch to nobody is 65535
abbrev pub nobody : ℕ
nobody = 65535

abbrev pub operand_number : Option ℕ → ℕ
operand_number none = nobody
operand_number (some n) = n

-- and back: the thread that the operand of a Switch names
abbrev pub operand_thread : (operand : ℕ) → Option ℕ
operand_thread n = cond (eqb n nobody) none (some n)

abbrev pub is_switch : Report → Bool
is_switch r = eqb (report_kind r) 17

abbrev pub is_expire : (timer : ℕ) → Report → Bool
is_expire i r = eqb (report_kind r) 21 && same (operand r) (some i)

abbrev pub is_tick : Call → Bool
is_tick (Create t) = false
is_tick (Delay n) = false
is_tick Relinquish = false
is_tick End = false
is_tick (Take s) = false
is_tick (Give s) = false
is_tick Tick = true
is_tick (Timing k) = false

abbrev pub is_tick_record : Record → Bool
is_tick_record (call k) = is_tick k
is_tick_record (report r) = false

abbrev pub is_thread : Plan → Option ℕ → Bool
is_thread p none = true
is_thread p (some t) = ltb t (threads p)

-- Operand: timer 0 to 7 for Arm, Cancel and Expire, 1 to 65535 for Start, 0 to 65535 for Period and Late.
abbrev pub allowed_timer : TimerCall → Bool
allowed_timer (Arm i) = ltb i timer_count
allowed_timer (Start n) = leb 1 n && leb n 65535
allowed_timer (Period n) = leb n 65535
allowed_timer (Cancel i) = ltb i timer_count

-- Operand: thread below T for Create and reports (or nobody for Switch), section below S for Take and Give, 1 to 65535 for Delay.
abbrev pub allowed_call : Plan → Call → Bool
allowed_call p (Create t) = ltb t (threads p)
allowed_call p (Delay n) = leb 1 n && leb n 65535
allowed_call p Relinquish = true
allowed_call p End = true
allowed_call p (Take s) = ltb s p.sections
allowed_call p (Give s) = ltb s p.sections
allowed_call p Tick = true
allowed_call p (Timing k) = allowed_timer k

abbrev pub allowed_report : Plan → Report → Bool
allowed_report p (Ready t) = ltb t (threads p)
allowed_report p (Switch w) = is_thread p w
allowed_report p (Won t) = ltb t (threads p)
allowed_report p (Lost t) = ltb t (threads p)
allowed_report p (Yield t) = ltb t (threads p)
allowed_report p (Expire i) = ltb i timer_count
allowed_report p (Late n) = leb n 65535

abbrev pub allowed : Plan → Record → Bool
allowed p (call k) = allowed_call p k
allowed p (report r) = allowed_report p r
