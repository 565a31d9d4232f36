-- Questions 5 to 8, asked of a dump and of a call list. T and S are those of the plan.
use Rattle.std.specs.Prelude.{◌≡◌, Bool, false, cond, ◌||◌, ◌&&◌, List, [], ◌∷◌, ℕ, ◌+◌, ◌*◌, ◌≤◌, eqb, leb, ltb, length, Result, Ok, Err}
use Rattle.std.proofs.Math.Option.{Option, none, some}
use Rattle.model.specs.Searches.{all, up_to}
use Rattle.model.specs.Records.{timer_count, nobody}
use Rattle.model.specs.Rules.{Question, ◌asks◌, first_no}
use Rattle.plan.specs.Bytes.{between}
use Rattle.dump.specs.Layout.{record_count, kind_at, operand_at}
use Rattle.dump.specs.declared.questions.Refusal.{Refusal}
use Rattle.dump.specs.declared.questions.Refusal.TheVariants.{Count, Length, Kinds, Operands}

-- the greatest number of records
abbrev pub most_records : ℕ
most_records = 20000

-- kinds: calls 1 to 11, reports 16 to 22

abbrev pub is_call : (kind : ℕ) → Bool
is_call k = between 1 11 k

abbrev pub is_report : (kind : ℕ) → Bool
is_report k = between 16 22 k

-- a dump has both, a call list calls only
abbrev pub kind_allowed : (calls_only : Bool) (kind : ℕ) → Bool
kind_allowed calls_only k = cond calls_only (is_call k) (is_call k || is_report k)

-- Operand: thread below T for Create and reports (or 65535 for Switch), section below S for Take and Give, 1 to 65535 for Delay, 0 for
-- Relinquish, End, Tick. Timer 0 to 7 for Arm, Cancel and Expire, 1 to 65535 for Start, 0 to 65535 for Period and Late.

abbrev pub call_fits : (threads sections kind operand : ℕ) → Bool
call_fits threads sections k n =
    cond (eqb k 1) (ltb n threads)
    (cond (eqb k 2) (between 1 65535 n)
    (cond (between 5 6 k) (ltb n sections)
    (cond (eqb k 8) (ltb n timer_count) (cond (eqb k 9) (between 1 65535 n) (cond (eqb k 10) (leb n 65535) (cond (eqb k 11) (ltb n timer_count) (eqb n 0)))))))

abbrev pub report_fits : (threads kind operand : ℕ) → Bool
report_fits threads k n = cond (eqb k 21) (ltb n timer_count) (cond (eqb k 22) (leb n 65535) (ltb n threads || (eqb k 17 && eqb n nobody)))

abbrev pub operand_fits : (threads sections kind operand : ℕ) → Bool
operand_fits threads sections k n = cond (is_call k) (call_fits threads sections k n) (cond (is_report k) (report_fits threads k n) false)

-- 5: Has the dump or list 2 bytes or more, and N at most 20,000?
abbrev pub has_count : List ℕ → Bool
has_count bytes = leb 2 (length bytes) && leb (record_count bytes) most_records

-- 6: Is it exactly 2 + 3N long?
abbrev pub has_length : List ℕ → Bool
has_length bytes = eqb (length bytes) (2 + 3 * record_count bytes)

-- 7: Is every kind allowed?
abbrev pub has_kinds : (calls_only : Bool) → List ℕ → Bool
has_kinds calls_only bytes = all (λ i. kind_allowed calls_only (kind_at bytes i)) (up_to (record_count bytes))

-- 8: Is every operand allowed for its kind?
abbrev pub has_operands : (threads sections : ℕ) → List ℕ → Bool
has_operands threads sections bytes = all (λ i. operand_fits threads sections (kind_at bytes i) (operand_at bytes i)) (up_to (record_count bytes))

unfoldable pub questions : (threads sections : ℕ) (calls_only : Bool) → List ℕ → List Question
questions threads sections calls_only bytes = 5 asks has_count bytes ∷ 6 asks has_length bytes ∷ 7 asks has_kinds calls_only bytes ∷ 8 asks has_operands threads sections bytes ∷ []

-- The first No gives its number.
unfoldable pub refusal : (threads sections : ℕ) (calls_only : Bool) → List ℕ → Option ℕ
refusal threads sections calls_only bytes = first_no (questions threads sections calls_only bytes)

-- the number of the question that a refusal names
abbrev pub question : Refusal → ℕ
question Count = 5
question Length = 6
question Kinds = 7
question Operands = 8

-- what an answer refuses, by the number of the question
abbrev pub refused : {A : Type 0} → Result A Refusal → Option ℕ
refused (Ok a) = none
refused (Err r) = some (question r)

-- what the answer Yes to questions 5 and 6 says in numbers
pub record Whole (bytes : List ℕ) : Type 0 where
  pub count : record_count bytes ≤ most_records
  pub size : length bytes ≡ 2 + 3 * record_count bytes
