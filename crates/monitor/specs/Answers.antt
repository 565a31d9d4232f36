-- What the whole check answers of a plan and a dump: document 01's `clean`, `breach` and `refused`, with their numbers.
use Rattle.std.specs.Prelude.{false, List, ℕ, Result, Ok, Err}
use Rattle.std.proofs.Math.Option.{Option, none, some}
use Rattle.model.specs.Runs.{Verdict, clean, breach, judge}
use Rattle.machine.specs.Rules.{number_of}
use Rattle.plan.specs.Bytes as plans
use Rattle.dump.specs.Layout.{decode}
use Rattle.dump.specs.Questions as dumps
use Rattle.monitor.specs.declared.check.Verdict as declared
use Rattle.monitor.specs.declared.check.Verdict.TheVariants.{Clean, Breach}
use Rattle.monitor.specs.declared.check.Refusal.{Refusal}
use Rattle.monitor.specs.declared.check.Refusal.TheVariants.{Plan, Dump}

-- refused with a number; or clean with records and due; or a breach with its record, from 0, and its rule
pub data Answer : Type 0 where
  refused : (number : ℕ) → Answer
  judged : Verdict → Answer

abbrev pub or_else : Option ℕ → Option ℕ → Option ℕ
or_else none o = o
or_else (some n) o = some n

-- questions 1 to 4 of the plan, then 5 to 8 of the dump; the first No gives its number
unfoldable pub first_refusal : (plan dump : List ℕ) → Option ℕ
first_refusal plan dump = or_else (plans.refusal plan) (dumps.refusal (plans.thread_count plan) (plans.section_count plan) false dump)

abbrev pub answer : Option ℕ → Verdict → Answer
answer none v = judged v
answer (some n) v = refused n

-- the whole check
unfoldable pub check : (plan dump : List ℕ) → Answer
check plan dump = answer (first_refusal plan dump) (judge (plans.plan_of plan) (decode dump))

-- the number of the question that a refusal names
abbrev pub question : Refusal → ℕ
question (Plan r) = plans.question r
question (Dump r) = dumps.question r

-- the answer that the code's result stands for
abbrev pub answer_of : Result declared.Verdict Refusal → Answer
answer_of (Ok (Clean n d)) = judged (clean n d)
answer_of (Ok (Breach i r)) = judged (breach i (number_of r))
answer_of (Err r) = refused (question r)
