-- The dump and the call list, in the order of the papers. A byte past the end counts as 0.
use Rattle.std.specs.Prelude.{cond, List, [], ◌∷◌, ◌++◌, map, ℕ, zero, suc, ◌+◌, ◌*◌, ◌-◌, ◌/◌, ◌%◌, eqb, length}
use Rattle.model.specs.Searches.{count_from, up_to}
use Rattle.model.specs.Records.{TimerCall, Arm, Start, Period, Cancel, Create, Delay, Relinquish, End, Take, Give, Tick, Timing, Ready, Switch, Won, Lost, Yield, Expire, Late, Call, Record, call, report, call_kind, report_kind, operand, operand_number, operand_thread}
use Rattle.plan.specs.Words.{byte, word}

-- N in two bytes, low byte first
abbrev pub record_count : List ℕ → ℕ
record_count bytes = word bytes 0

-- N kind bytes
abbrev pub kind_at : List ℕ → (i : ℕ) → ℕ
kind_at bytes i = byte bytes (2 + i)

-- N operands of two bytes, low byte first
abbrev pub operand_at : List ℕ → (i : ℕ) → ℕ
operand_at bytes i = word bytes (2 + record_count bytes + 2 * i)

-- Document 02's running place, of n records at record i: it starts behind the kinds and moves on by two.
abbrev pub running_place : (n i : ℕ) → ℕ
running_place n zero = 2 + n
running_place n (suc i) = running_place n i + 2

-- the record of a kind with an operand; which kinds there are is question 7, and any other number is read as the last of them
abbrev pub record_of : (kind operand : ℕ) → Record
record_of k n =
    cond (eqb k 1) (call (Create n))
    (cond (eqb k 2) (call (Delay n))
    (cond (eqb k 3) (call Relinquish)
    (cond (eqb k 4) (call End)
    (cond (eqb k 5) (call (Take n))
    (cond (eqb k 6) (call (Give n))
    (cond (eqb k 7) (call Tick)
    (cond (eqb k 8) (call (Timing (Arm n)))
    (cond (eqb k 9) (call (Timing (Start n)))
    (cond (eqb k 10) (call (Timing (Period n)))
    (cond (eqb k 11) (call (Timing (Cancel n)))
    (cond (eqb k 16) (report (Ready n))
    (cond (eqb k 17) (report (Switch (operand_thread n)))
    (cond (eqb k 18) (report (Won n))
    (cond (eqb k 19) (report (Lost n))
    (cond (eqb k 20) (report (Yield n))
    (cond (eqb k 21) (report (Expire n)) (report (Late n))))))))))))))))))

-- what is read as record i
abbrev pub record_at : List ℕ → (i : ℕ) → Record
record_at bytes i = record_of (kind_at bytes i) (operand_at bytes i)

-- the records of a dump, in order
abbrev pub decode : List ℕ → List Record
decode bytes = map (record_at bytes) (up_to (record_count bytes))

-- the records from one number on and before another
abbrev pub part : List ℕ → (from to : ℕ) → List Record
part bytes from to = map (record_at bytes) (count_from from (to - from))

-- and back: the kind and the operand of a record

abbrev pub kind_of : Record → ℕ
kind_of (call k) = call_kind k
kind_of (report r) = report_kind r

abbrev pub timer_operand : TimerCall → ℕ
timer_operand (Arm i) = i
timer_operand (Start n) = n
timer_operand (Period n) = n
timer_operand (Cancel i) = i

abbrev pub call_operand : Call → ℕ
call_operand (Create t) = t
call_operand (Delay n) = n
call_operand Relinquish = 0
call_operand End = 0
call_operand (Take s) = s
call_operand (Give s) = s
call_operand Tick = 0
call_operand (Timing k) = timer_operand k

abbrev pub operand_of : Record → ℕ
operand_of (call k) = call_operand k
operand_of (report r) = operand_number (operand r)

-- a number in two bytes, low byte first
abbrev pub two_bytes : ℕ → List ℕ
two_bytes n = n % 256 ∷ n / 256 ∷ []

abbrev pub operands : List Record → List ℕ
operands [] = []
operands (r ∷ rs) = two_bytes (operand_of r) ++ operands rs

-- Sizes first: N; N kind bytes; N operands.
abbrev pub encode : List Record → List ℕ
encode rs = two_bytes (length rs) ++ map kind_of rs ++ operands rs
