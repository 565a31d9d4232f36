-- What the answer that n records are written tells: every question has the answer Yes, and the dump stands in front.
use mathlib.Core.Path.{◌≡◌, refl, ap, ◌∙◌}
use mathlib.Core.Bool.{true}
use mathlib.Core.List.{List}
use mathlib.Core.Option.{Option, none, some, some-ne-none}
use Prim.Native.Nat.{ℕ, ◌≤◌}
use native.Mathlib.Omega.{arith}
use lib.Dec.{T, leb, leb→le}
use lib.ListN.{length, take, drop}
use lib.Seq.{take_at}
use Rattle.model.specs.Records.{Record}
use Rattle.model.specs.Rules.{first_no}
use Rattle.model.proofs.Laws.{all_yes}
use Rattle.plan.specs.Bytes as plans
use Rattle.plan.specs.Bytes.{thread_count, section_count}
use Rattle.dump.specs.Layout.{encode}
use Rattle.dump.specs.Questions as dumps
use Rattle.dump.specs.Questions.{most_records}
use Rattle.dump.proofs.Laws.{encode-length}
use Rattle.kernel.specs.Answers.{wrote, made, is_made, records_of, bytes_for, questions, or_else, refusal, answer_with, answer, at_front, output_with, output}

-- one of two answers is none only if both are
first_none : (a b : Option ℕ) → or_else a b ≡ none → a ≡ none
first_none none b e = refl
first_none (some n) b e = absurd (some-ne-none n e)

second_none : (a b : Option ℕ) → or_else a b ≡ none → b ≡ none
second_none none b e = e
second_none (some n) b e = absurd (some-ne-none n e)

not_refused : (o : Option ℕ) (m n : ℕ) → answer_with o m ≡ wrote n → (o ≡ none) × (n ≡ m)
not_refused none m n e = (refl, cc)
not_refused (some q) m n e = let z : ◌≡◌ {A = ℕ} 0 1 = cc in absurd (omega arith)

some_made : (o : Option (List Record)) → T (is_made o) → o ≡ some (records_of o)
some_made none t = absurd t
some_made (some rs) t = refl

pub record Wrote (plan list out : List ℕ) (n : ℕ) : Type 0 where
  pub plan_yes : plans.refusal plan ≡ none
  pub list_yes : dumps.refusal (thread_count plan) (section_count plan) true list ≡ none
  pub records : List Record
  pub made' : made plan list ≡ some records
  pub count : n ≡ length records
  pub few : n ≤ most_records
  pub room : bytes_for n ≤ length out
  pub front : take (bytes_for n) (output plan list out) ≡ encode records

module _ (plan list out : List ℕ) (n : ℕ) (e : answer plan list (length out) ≡ wrote n) where
  abbrev rs : List Record
  rs = records_of (made plan list)

  parts : (refusal plan list (length out) ≡ none) × (n ≡ length rs)
  unfolding answer
  parts = not_refused (refusal plan list (length out)) (length rs) n e

  -- questions 1 to 4, 5 to 8 and 9 to 11
  unrefused : (plans.refusal plan ≡ none) × (dumps.refusal (thread_count plan) (section_count plan) true list ≡ none) × (first_no (questions (made plan list) (length out)) ≡ none)
  unfolding refusal
  unrefused =
      let later = second_none (plans.refusal plan) _ parts.0 in
      (first_none (plans.refusal plan) _ parts.0, first_none (dumps.refusal (thread_count plan) (section_count plan) true list) _ later, second_none (dumps.refusal (thread_count plan) (section_count plan) true list) _ later)

  yes : T (is_made (made plan list)) × T (leb (length rs) most_records) × T (leb (bytes_for (length rs)) (length out))
  yes = let r = all_yes (questions (made plan list) (length out)) unrefused.2 in (r.0, r.1.0, r.1.1.0)

  written : output plan list out ≡ at_front rs out
  unfolding output
  written = ap (λ o. output_with o rs out) parts.0

  pub wrote_all : Wrote plan list out n
  wrote_all =
      record {
        plan_yes = unrefused.0;
        list_yes = unrefused.1;
        records = rs;
        made' = some_made (made plan list) yes.0;
        count = parts.1;
        few = omega (arith, parts.1, leb→le (length rs) most_records yes.1);
        room = omega (arith, parts.1, leb→le (bytes_for (length rs)) (length out) yes.2);
        front = ap (take (bytes_for n)) written ∙ take_at (encode rs) (drop (bytes_for (length rs)) out) (bytes_for n) (omega (arith, parts.1, encode-length rs));
      }
