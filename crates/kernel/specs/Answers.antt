-- What the bench kernel answers of a plan, a call list and a lent output, and what it writes there.
use Rattle.std.specs.Prelude.{Bool, true, false, List, [], ◌∷◌, ◌++◌, ℕ, ◌+◌, ◌*◌, leb, length, drop, Result, Ok, Err}
use Rattle.std.proofs.Math.Option.{Option, none, some}
use Rattle.model.specs.Records.{Record}
use Rattle.model.specs.Rules.{Question, ◌asks◌, first_no}
use Rattle.model.specs.Bench.{bench, calls_of}
use Rattle.plan.specs.Bytes as plans
use Rattle.dump.specs.Layout.{decode, encode}
use Rattle.dump.specs.Questions as dumps
use Rattle.dump.specs.Questions.{most_records}
use Rattle.kernel.specs.declared.bench.Refusal.{Refusal}
use Rattle.kernel.specs.declared.bench.Refusal.TheVariants.{Plan, List as CallList, Calls, Records, Output}

-- refused with a number, or the number of records written
pub data Answer : Type 0 where
  refused : (number : ℕ) → Answer
  wrote : (records : ℕ) → Answer

-- calls with their reports behind them; none where the machine does not admit a call
unfoldable pub made : (plan list : List ℕ) → Option (List Record)
made plan list = bench (plans.plan_of plan) (calls_of (decode list))

abbrev pub is_made : Option (List Record) → Bool
is_made none = false
is_made (some rs) = true

abbrev pub records_of : Option (List Record) → List Record
records_of none = []
records_of (some rs) = rs

-- the bytes that so many records take
abbrev pub bytes_for : (records : ℕ) → ℕ
bytes_for n = 2 + 3 * n

-- 9: Does the machine admit every call, each made with earlier reports already given?
-- 10: Are calls and reports together at most 20,000?
-- 11: Is the lent output at least 2 + 3 times their number long?
abbrev pub questions : Option (List Record) → (space : ℕ) → List Question
questions rs space = 9 asks is_made rs ∷ 10 asks leb (length (records_of rs)) most_records ∷ 11 asks leb (bytes_for (length (records_of rs))) space ∷ []

abbrev pub or_else : Option ℕ → Option ℕ → Option ℕ
or_else none o = o
or_else (some n) o = some n

-- 1 to 4 of the plan, 5 to 8 of the call list, then 9 to 11
unfoldable pub refusal : (plan list : List ℕ) (space : ℕ) → Option ℕ
refusal plan list space =
    or_else (plans.refusal plan)
    (or_else (dumps.refusal (plans.thread_count plan) (plans.section_count plan) true list) (first_no (questions (made plan list) space)))

abbrev pub answer_with : Option ℕ → (records : ℕ) → Answer
answer_with none n = wrote n
answer_with (some q) n = refused q

unfoldable pub answer : (plan list : List ℕ) (space : ℕ) → Answer
answer plan list space = answer_with (refusal plan list space) (length (records_of (made plan list)))

-- the dump at the front of the lent output, nothing after it touched; on a refusal no byte changes
abbrev pub at_front : List Record → (out : List ℕ) → List ℕ
at_front rs out = encode rs ++ drop (bytes_for (length rs)) out

abbrev pub output_with : Option ℕ → List Record → (out : List ℕ) → List ℕ
output_with none rs out = at_front rs out
output_with (some q) rs out = out

unfoldable pub output : (plan list out : List ℕ) → List ℕ
output plan list out = output_with (refusal plan list (length out)) (records_of (made plan list)) out

-- the number of the question that a refusal names
abbrev pub question : Refusal → ℕ
question (Plan r) = plans.question r
question (CallList r) = dumps.question r
question Calls = 9
question Records = 10
question Output = 11

-- the answer that the code's result stands for
abbrev pub answer_of : Result ℕ Refusal → Answer
answer_of (Ok n) = wrote n
answer_of (Err r) = refused (question r)
