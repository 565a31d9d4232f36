-- What other crates may cite of the bench kernel, as equations about its answer and its output.
use mathlib.Core.Path.{◌≡◌, ap, ◌∙◌}
use mathlib.Core.Bool.{false}
use mathlib.Core.List.{List, map}
use mathlib.Core.Option.{none}
use Prim.Native.Nat.{ℕ, ◌≤◌}
use native.Mathlib.Omega.{arith}
use lib.Dec.{T, ltb}
use lib.ListN.{length, take, replicate, length-replicate}
use Rattle.model.specs.Searches.{all}
use Rattle.model.specs.Records.{call}
use Rattle.model.specs.Runs.{clean, judge}
use Rattle.model.specs.Bench.{calls_of, Complete, Rested}
use Rattle.plan.specs.Bytes as plans
use Rattle.plan.specs.Bytes.{thread_count, section_count, plan_of}
use Rattle.dump.specs.Layout.{decode, encode}
use Rattle.dump.specs.Questions as dumps
use Rattle.kernel.specs.Answers.{wrote, bytes_for, answer, output}
use Rattle.kernel.proofs.Wrote.{wrote_all}
use Rattle.kernel.proofs.Dumped.{dump_clean, dump_complete, dump_rested, dump_passes, dump_calls, dump_answer, dump_output}
-- where one of questions 1 to 8 refuses plan and list its number is the answer, and the output stays as it is
pub use Rattle.kernel.proofs.Answering.{refused_answer, refused_output}
-- question 11 refuses nothing where there is room for the greatest number of records
pub use Rattle.kernel.proofs.Room.{enough_space}

-- Where n records are written, the bytes in front are a clean dump with nothing due,
pub written_clean : (plan list out : List ℕ) (n : ℕ) → answer plan list (length out) ≡ wrote n → judge (plan_of plan) (decode (take (bytes_for n) (output plan list out))) ≡ clean n 0
written_clean plan list out n e = dump_clean (wrote_all plan list out n e)

-- which does not end inside an arming,
pub written_complete : (plan list out : List ℕ) (n : ℕ) → answer plan list (length out) ≡ wrote n → Complete (plan_of plan) (decode (take (bytes_for n) (output plan list out)))
written_complete plan list out n e = dump_complete (wrote_all plan list out n e)

-- in which every call comes with nothing due,
pub written_rested : (plan list out : List ℕ) (n : ℕ) → answer plan list (length out) ≡ wrote n → Rested (plan_of plan) (decode (take (bytes_for n) (output plan list out)))
written_rested plan list out n e = dump_rested (wrote_all plan list out n e)

-- they pass questions 5 to 8,
pub written_passes : (plan list out : List ℕ) (n : ℕ) → answer plan list (length out) ≡ wrote n
    → dumps.refusal (thread_count plan) (section_count plan) false (take (bytes_for n) (output plan list out)) ≡ none
written_passes plan list out n e = dump_passes (wrote_all plan list out n e)

-- and their calls are those of the list.
pub written_calls : (plan list out : List ℕ) (n : ℕ) → answer plan list (length out) ≡ wrote n → calls_of (decode (take (bytes_for n) (output plan list out))) ≡ calls_of (decode list)
written_calls plan list out n e = dump_calls (wrote_all plan list out n e)

-- Every clean dump with nothing due that does not end inside an arming, and in which every call comes with nothing due, is what the bench kernel writes for
-- the dump's own calls, in any output with room for it.
pub clean_written : (plan dump out : List ℕ) (n : ℕ) → plans.refusal plan ≡ none → T (all (λ b. ltb b 256) dump) → dumps.refusal (thread_count plan) (section_count plan) false dump ≡ none
    → judge (plan_of plan) (decode dump) ≡ clean n 0 → Complete (plan_of plan) (decode dump) → Rested (plan_of plan) (decode dump) → length dump ≤ length out
    → (answer plan (encode (map call (calls_of (decode dump)))) (length out) ≡ wrote n) × (take (length dump) (output plan (encode (map call (calls_of (decode dump)))) out) ≡ dump)
clean_written plan dump out n p b d v c h r = (dump_answer plan dump out n p d v c h r, dump_output plan dump out n p d v c h r b)

-- What is written fits the output.
pub written_fits : (plan list : List ℕ) (space n : ℕ) → answer plan list space ≡ wrote n → bytes_for n ≤ space
written_fits plan list space n e =
    let out : List ℕ = replicate space 0 in
    let size : length out ≡ space = length-replicate space 0 in
    omega (arith, size, (wrote_all plan list out n (ap (answer plan list) size ∙ e)).room)
