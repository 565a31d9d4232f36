-- What the bench kernel writes is a clean dump with nothing due that does not end inside an arming, and such a dump is what it writes for the dump's own calls.
use mathlib.Core.Path.{◌≡◌, refl, ap, sym, subst, ◌∙◌}
use mathlib.Core.Bool.{Bool, true, false}
use mathlib.Core.List.{List, [], ◌∷◌, map}
use mathlib.Core.Option.{none, some}
use Prim.Native.Nat.{ℕ, ◌≤◌}
use native.Mathlib.Omega.{arith}
use lib.Dec.{T, ltb}
use lib.ListN.{length, take, drop, length-map}
use lib.Seq.{take_at}
use Rattle.model.specs.Searches.{all}
use Rattle.model.specs.Plan.{threads}
use Rattle.model.specs.Records.{Call, Record, call, report, allowed_call, allowed}
use Rattle.model.specs.Runs.{clean, judge, Clean}
use Rattle.model.specs.Bench.{bench, calls_of, Complete, Rested}
use Rattle.model.proofs.Tests.{and_left, and_right, and_both}
use Rattle.model.proofs.Laws.{clean_count, bench_clean, clean_is_bench}
use Rattle.plan.specs.Bytes as plans
use Rattle.plan.specs.Bytes.{thread_count, section_count, plan_of}
use Rattle.plan.proofs.Laws.{accepted, whole, refusal_none_valid, threads_bytes}
use Rattle.dump.specs.Layout.{decode, encode}
use Rattle.dump.specs.Questions as dumps
use Rattle.dump.specs.Questions.{most_records}
use Rattle.dump.proofs.Laws.{is_call_record, decode_encode, encode_passes, encode_passes_calls, decode-length, decoded_allowed, encode_decode}
use Rattle.dump.proofs.Laws as dump-laws
use Rattle.kernel.specs.Answers.{wrote, made, is_made, records_of, bytes_for, answer, at_front, output}
use Rattle.kernel.proofs.Answering.{Answers, all_pass}
use Rattle.kernel.proofs.Wrote.{Wrote}

-- the calls of some records: no more than those, and allowed if those are
module _ (plan : List ℕ) where
  calls_allowed : (rs : List Record) → T (all (allowed (plan_of plan)) rs) → T (all (allowed_call (plan_of plan)) (calls_of rs))
  calls_allowed [] t = tt
  calls_allowed (call k ∷ rs) t =
      let a = allowed_call (plan_of plan) k in
      let b = all (allowed (plan_of plan)) rs in
      and_both a (all (allowed_call (plan_of plan)) (calls_of rs)) (and_left a b t) (calls_allowed rs (and_right a b t))
  calls_allowed (report r ∷ rs) t = calls_allowed rs (and_right (allowed (plan_of plan) (report r)) (all (allowed (plan_of plan)) rs) t)

  records_allowed : (ks : List Call) → T (all (allowed_call (plan_of plan)) ks) → T (all (allowed (plan_of plan)) (map call ks))
  records_allowed [] t = tt
  records_allowed (k ∷ ks) t =
      let a = allowed_call (plan_of plan) k in
      let b = all (allowed_call (plan_of plan)) ks in
      and_both a (all (allowed (plan_of plan)) (map call ks)) (and_left a b t) (records_allowed ks (and_right a b t))

calls_fewer : (rs : List Record) → length (calls_of rs) ≤ length rs
calls_fewer [] = omega arith
calls_fewer (call k ∷ rs) = omega (arith, calls_fewer rs)
calls_fewer (report r ∷ rs) = omega (arith, calls_fewer rs)

-- calls as records: calls, and their own calls

are_calls : (ks : List Call) → T (all is_call_record (map call ks))
are_calls [] = tt
are_calls (k ∷ ks) = are_calls ks

own_calls : (ks : List Call) → calls_of (map call ks) ≡ ks
own_calls [] = refl
own_calls (k ∷ ks) = ap {B = List Call} (λ l. k ∷ l) (own_calls ks)

-- the plan's counts, in its bytes and in the model's plan
module _ (plan : List ℕ) where
  module _ (calls_only : Bool) (bytes : List ℕ) where
    of_plan : dumps.refusal (thread_count plan) (section_count plan) calls_only bytes ≡ none → dumps.refusal (threads (plan_of plan)) (section_count plan) calls_only bytes ≡ none
    of_plan e = subst (λ t. dumps.refusal t (section_count plan) calls_only bytes ≡ none) (sym (threads_bytes plan)) e

    pub of_bytes : dumps.refusal (threads (plan_of plan)) (section_count plan) calls_only bytes ≡ none → dumps.refusal (thread_count plan) (section_count plan) calls_only bytes ≡ none
    of_bytes e = subst (λ t. dumps.refusal t (section_count plan) calls_only bytes ≡ none) (threads_bytes plan) e

  module _ (yes : plans.refusal plan ≡ none) where
    counts : plans.Whole plan
    counts = let a = accepted plan yes in whole plan a.counts a.size

    few_threads : threads (plan_of plan) ≤ 65535
    few_threads = omega (arith, threads_bytes plan, counts.threads)

    few_sections : section_count plan ≤ 65536
    few_sections = omega (arith, counts.sections)

-- from the answer that n records are written to the dump in front
module _ {plan list out : List ℕ} {n : ℕ} (w : Wrote plan list out n) where
  benched : (c : Clean (plan_of plan) w.records) × (c.due ≡ 0) × (calls_of w.records ≡ calls_of (decode list)) × Complete (plan_of plan) w.records × Rested (plan_of plan) w.records
  unfolding made
  benched =
      bench_clean (plan_of plan) (calls_of (decode list)) w.records (refusal_none_valid plan w.plan_yes)
      (calls_allowed plan (decode list) (decoded_allowed (plan_of plan) true list (of_plan plan true list w.list_yes)))
      w.made'

  read_back : decode (take (bytes_for n) (output plan list out)) ≡ w.records
  read_back =
      ap decode w.front
      ∙ decode_encode (plan_of plan) (few_threads plan w.plan_yes) (few_sections plan w.plan_yes) w.records (omega (arith, w.count, w.few)) benched.0.operands

  pub dump_clean : judge (plan_of plan) (decode (take (bytes_for n) (output plan list out))) ≡ clean n 0
  dump_clean =
      ap (judge (plan_of plan)) read_back ∙ benched.0.verdict
      ∙ ap (λ d. clean (length w.records) d) benched.1 ∙ ap (λ m. clean m 0) (sym w.count)

  pub dump_passes : dumps.refusal (thread_count plan) (section_count plan) false (take (bytes_for n) (output plan list out)) ≡ none
  dump_passes =
      ap (dumps.refusal (thread_count plan) (section_count plan) false) w.front
      ∙ of_bytes plan false (encode w.records)
      (encode_passes (plan_of plan) (few_threads plan w.plan_yes) (few_sections plan w.plan_yes) w.records (omega (arith, w.count, w.few)) benched.0.operands)

  pub dump_complete : Complete (plan_of plan) (decode (take (bytes_for n) (output plan list out)))
  dump_complete = subst (Complete (plan_of plan)) (sym read_back) benched.3

  pub dump_rested : Rested (plan_of plan) (decode (take (bytes_for n) (output plan list out)))
  dump_rested = subst (Rested (plan_of plan)) (sym read_back) benched.4

  pub dump_calls : calls_of (decode (take (bytes_for n) (output plan list out))) ≡ calls_of (decode list)
  dump_calls = ap calls_of read_back ∙ benched.2

-- and back, from a clean dump with nothing due and no arming in progress, each call with nothing due before it: its calls as a call list
abbrev pub call_list : (dump : List ℕ) → List ℕ
call_list dump = encode (map call (calls_of (decode dump)))

module _ (plan dump out : List ℕ) (n : ℕ) (plan_yes : plans.refusal plan ≡ none) (dump-yes : dumps.refusal (thread_count plan) (section_count plan) false dump ≡ none)
    (verdict : judge (plan_of plan) (decode dump) ≡ clean n 0) (complete : Complete (plan_of plan) (decode dump)) (rested : Rested (plan_of plan) (decode dump)) (room : length dump ≤ length out) where
  abbrev ks : List Call
  ks = calls_of (decode dump)

  whole_dump : dumps.Whole dump
  whole_dump = dump-laws.whole (thread_count plan) (section_count plan) false dump dump-yes

  few_calls : length (map call ks) ≤ most_records
  few_calls = omega (arith, length-map ks call, calls_fewer (decode dump), decode-length dump, whole_dump.count)

  allowed_calls : T (all (allowed (plan_of plan)) (map call ks))
  allowed_calls = records_allowed plan ks (calls_allowed plan (decode dump) (decoded_allowed (plan_of plan) false dump (of_plan plan false dump dump-yes)))

  list_yes : dumps.refusal (thread_count plan) (section_count plan) true (call_list dump) ≡ none
  list_yes =
      of_bytes plan true (call_list dump)
      (encode_passes_calls (plan_of plan) (few_threads plan plan_yes) (few_sections plan plan_yes) (map call ks) few_calls allowed_calls (are_calls ks))

  makes : made plan (call_list dump) ≡ some (decode dump)
  unfolding made
  makes =
      ap (λ (l : List Record). bench (plan_of plan) (calls_of l))
      (decode_encode (plan_of plan) (few_threads plan plan_yes) (few_sections plan plan_yes) (map call ks) (omega (arith, few_calls)) allowed_calls)
      ∙ ap (bench (plan_of plan)) (own_calls ks) ∙ clean_is_bench (plan_of plan) (decode dump) n verdict complete rested

  same_records : records_of (made plan (call_list dump)) ≡ decode dump
  same_records = ap records_of makes

  answers : Answers plan (call_list dump) out (wrote (length (records_of (made plan (call_list dump))))) (at_front (records_of (made plan (call_list dump))) out)
  answers =
      all_pass plan (call_list dump) out plan_yes list_yes (ap is_made makes) (omega (arith, ap length same_records, decode-length dump, whole_dump.count))
      (omega (arith, ap length same_records, decode-length dump, whole_dump.size))

  pub dump_answer : answer plan (call_list dump) (length out) ≡ wrote n
  dump_answer = sym answers.0 ∙ ap wrote (ap length same_records ∙ sym (clean_count (plan_of plan) (decode dump) n 0 verdict).0)

  pub dump_output : T (all (λ b. ltb b 256) dump) → take (length dump) (output plan (call_list dump) out) ≡ dump
  dump_output t =
      let back : encode (decode dump) ≡ dump = encode_decode (thread_count plan) (section_count plan) false dump t dump-yes in
      ap (take (length dump)) (sym answers.1 ∙ ap (λ l. at_front l out) same_records)
      ∙ take_at (encode (decode dump)) (drop (bytes_for (length (decode dump))) out) (length dump) (ap length back) ∙ back
