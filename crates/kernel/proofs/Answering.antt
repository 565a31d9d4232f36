-- The bench kernel's answer by the question that refuses, and what it writes where none does.
use mathlib.Core.Path.{◌≡◌, refl, ap, sym, ◌∙◌}
use mathlib.Core.Bool.{Bool, true, false, cond}
use mathlib.Core.List.{List}
use mathlib.Core.Option.{Option, none, some}
use Prim.Native.Nat.{ℕ, ◌≤◌, ◌<◌}
use native.Mathlib.Omega.{arith}
use borrow.Author.Tests.{le-leb, lt-leb}
use lib.Dec.{leb}
use lib.ListN.{length}
use Rattle.std.specs.Prelude.{Some, None}
use Rattle.model.proofs.Tests.{from_true}
use Rattle.model.specs.Plan as model
use Rattle.model.specs.Records.{Record}
use Rattle.model.specs.Bench.{bench, calls_of}
use Rattle.plan.specs.Bytes as plans
use Rattle.plan.specs.Bytes.{thread_count, section_count, plan_of}
use Rattle.plan.specs.View.{Made}
use Rattle.plan.specs.declared.Plan.{Plan}
use Rattle.dump.specs.Layout.{decode}
use Rattle.dump.specs.Questions as dumps
use Rattle.dump.specs.Questions.{most_records}
use Rattle.dump.proofs.Laws.{Refused, by_plan, by_list, read_refusal}
use Rattle.kernel.specs.Answers.{Answer, refused, wrote, made, is_made, records_of, bytes_for, refusal, answer_with, answer, at_front, output_with, output}
use Rattle.kernel.specs.Clauses.{made_of, tally_of, AllFit}

-- questions 5 to 8 of a call list, with the counts of a plan's bytes
abbrev list_refusal : (plan list : List ℕ) → Option ℕ
list_refusal plan list = dumps.refusal (thread_count plan) (section_count plan) true list

-- questions 1 to 8 are asked first: where one of them refuses, so does the bench kernel, whatever the space

first_refuses : (plan list : List ℕ) (space q : ℕ) → Refused true plan list q → refusal plan list space ≡ some q
unfolding refusal
first_refuses plan list space q (by_plan e) = rw e
first_refuses plan list space q (by_list e f) = rw (e, f)

pub refused_answer : (plan list : List ℕ) (space q : ℕ) → Refused true plan list q → answer plan list space ≡ refused q
unfolding answer
refused_answer plan list space q r = ap (λ o. answer_with o (length (records_of (made plan list)))) (first_refuses plan list space q r)

pub refused_output : (plan list out : List ℕ) (q : ℕ) → Refused true plan list q → output plan list out ≡ out
unfolding output
refused_output plan list out q r = ap (λ o. output_with o (records_of (made plan list)) out) (first_refuses plan list (length out) q r)

module _ (plan list out : List ℕ) where
  abbrev records : List Record
  records = records_of (made plan list)

  -- the answer, with the output as it is then
  abbrev pub Answers : Answer → List ℕ → Type 0
  Answers a after = (a ≡ answer plan list (length out)) × (after ≡ output plan list out)

  with_refusal : (o : Option ℕ) → refusal plan list (length out) ≡ o → Answers (answer_with o (length records)) (output_with o records out)
  unfolding answer output
  with_refusal o e = (ap (λ x. answer_with x (length records)) (sym e), ap (λ x. output_with x records out) (sym e))

  pub refused_by : (q : ℕ) → Refused true plan list q → Answers (refused q) out
  refused_by q r = (sym (refused_answer plan list (length out) q r), sym (refused_output plan list out q r))

  module _ (a : plans.refusal plan ≡ none) (b : list_refusal plan list ≡ none) where
    asked : (x y z : Bool) → is_made (made plan list) ≡ x → leb (length records) most_records ≡ y → leb (bytes_for (length records)) (length out) ≡ z
        → refusal plan list (length out) ≡ cond x (cond y (cond z none (some 11)) (some 10)) (some 9)
    unfolding refusal
    asked x y z e f g = rw (a, b, e, f, g)

    call_refuses : is_made (made plan list) ≡ false → Answers (refused 9) out
    call_refuses e = with_refusal (some 9) (asked false (leb (length records) most_records) (leb (bytes_for (length records)) (length out)) e refl refl)

    module _ (e : is_made (made plan list) ≡ true) where
      count_refuses : most_records < length records → Answers (refused 10) out
      count_refuses h = with_refusal (some 10) (asked true false (leb (bytes_for (length records)) (length out)) e (lt-leb (length records) most_records h) refl)

      module _ (h : length records ≤ most_records) where
        space_refuses : length out < bytes_for (length records) → Answers (refused 11) out
        space_refuses g = with_refusal (some 11) (asked true true false e (le-leb (length records) most_records h) (lt-leb (bytes_for (length records)) (length out) g))

        pub all_pass : bytes_for (length records) ≤ length out → Answers (wrote (length records)) (at_front records out)
        all_pass g = with_refusal none (asked true true true e (le-leb (length records) most_records h) (le-leb (bytes_for (length records)) (length out) g))

-- the same of the code's plan, read from the bytes

-- the calls make the same records
made_read : (plan list : List ℕ) (p : Plan) → Made p (plan_of plan) → made_of p list ≡ made plan list
unfolding made
made_read plan list p m = ap (λ (q : model.Plan). bench q (calls_of (decode list))) m.seen

-- what the first run has counted says whether all calls are admitted, and of how many records

none_made : (o : Option (List Record)) → None ≡ tally_of o → is_made o ≡ false
none_made none e = refl
none_made (some rs) e = absurd (let z : ◌≡◌ {A = ℕ} 0 1 = cc in omega arith)

all_made : (o : Option (List Record)) (n : ℕ) → Some n ≡ tally_of o → (is_made o ≡ true) × (n ≡ length (records_of o))
all_made none n e = absurd (let z : ◌≡◌ {A = ℕ} 0 1 = cc in omega arith)
all_made (some rs) n e = (refl, cc)

-- nothing refuses the plan that is read and the list
module _ (plan list out : List ℕ) {p : Plan} (m : Made p (plan_of plan)) (a : plans.refusal plan ≡ none) (b : dumps.refusal p.threads p.sections true list ≡ none) where
  list_yes : list_refusal plan list ≡ none
  list_yes = sym (read_refusal plan m true list) ∙ b

  pub not_admitted : None ≡ tally_of (made_of p list) → Answers plan list out (refused 9) out
  not_admitted e = call_refuses plan list out a list_yes (none_made _ (e ∙ ap tally_of (made_read plan list p m)))

  module _ {n : ℕ} (e : Some n ≡ tally_of (made_of p list)) where
    counted : (is_made (made plan list) ≡ true) × (n ≡ length (records_of (made plan list)))
    counted = all_made _ n (e ∙ ap tally_of (made_read plan list p m))

    pub too_many : most_records < n → Answers plan list out (refused 10) out
    too_many h = count_refuses plan list out a list_yes counted.0 (omega (arith, counted.1))

    module _ (h : n ≤ most_records) where
      pub no_space : length out < bytes_for n → Answers plan list out (refused 11) out
      no_space g = space_refuses plan list out a list_yes counted.0 (omega (arith, counted.1)) (omega (arith, counted.1))

      -- there is room for all that is written,
      pub fits : bytes_for n ≤ length out → AllFit (made_of p list) n out
      fits g =
          let c = all_made (made_of p list) n e in
          record { admitted = from_true _ c.0; count = c.1; few = h; room = g }

      -- and what is written for the code's plan is the output
      pub written : (after : List ℕ) → after ≡ at_front (records_of (made_of p list)) out → bytes_for n ≤ length out → Answers plan list out (wrote n) after
      written after w g =
          let r = all_pass plan list out a list_yes counted.0 (omega (arith, counted.1)) (omega (arith, counted.1)) in
          (ap wrote counted.1 ∙ r.0, w ∙ ap (λ o. at_front (records_of o) out) (made_read plan list p m) ∙ r.1)
