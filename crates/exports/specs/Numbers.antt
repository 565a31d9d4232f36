-- The number that stands for each answer, and what is set beside it; `was` is what stood there, and stays unless it is set.
use Rattle.std.specs.Prelude.{ℕ}
use Rattle.model.specs.Runs.{clean, breach}
use Rattle.monitor.specs.Answers as verdicts
use Rattle.live.specs.Watching as replies
use Rattle.kernel.specs.Answers as benches

-- The whole check: `clean`, records, due; or `breach`, record from 0, rule; or `refused`, number.

-- 0 is clean; a refusal is its question's number, a breach its rule's
abbrev pub verdict_number : verdicts.Answer → ℕ
verdict_number (verdicts.refused q) = q
verdict_number (verdicts.judged (clean n d)) = 0
verdict_number (verdicts.judged (breach i r)) = r

-- the records of a clean dump, the record of a breach
abbrev pub verdict_at : verdicts.Answer → (was : ℕ) → ℕ
verdict_at (verdicts.refused q) was = was
verdict_at (verdicts.judged (clean n d)) was = n
verdict_at (verdicts.judged (breach i r)) was = i

-- the reports due behind a clean dump
abbrev pub verdict_due : verdicts.Answer → (was : ℕ) → ℕ
verdict_due (verdicts.refused q) was = was
verdict_due (verdicts.judged (clean n d)) was = d
verdict_due (verdicts.judged (breach i r)) was = was

-- The bench kernel answers the number of records, or the question that refuses.

-- 0 is written; a refusal is its question's number
abbrev pub written_number : benches.Answer → ℕ
written_number (benches.refused q) = q
written_number (benches.wrote n) = 0

abbrev pub written_records : benches.Answer → (was : ℕ) → ℕ
written_records (benches.refused q) was = was
written_records (benches.wrote n) was = n

-- A step answers clean with the number due, or the broken rule; or the number of a question with the answer No.

-- 0 is clean; a refusal is its question's number, a breach its rule's
abbrev pub reply_number : replies.Reply → ℕ
reply_number (replies.refused q) = q
reply_number (replies.clean d) = 0
reply_number (replies.broken r) = r

-- the reports due after a clean step
abbrev pub reply_due : replies.Reply → (was : ℕ) → ℕ
reply_due (replies.refused q) was = was
reply_due (replies.clean d) was = d
reply_due (replies.broken r) was = was
