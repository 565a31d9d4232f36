-- Which question refuses a dump or call list, alone or behind a plan.
use mathlib.Core.Path.{◌≡◌, refl, ap, sym, ◌∙◌}
use mathlib.Core.Bool.{Bool, true, false, cond}
use mathlib.Core.List.{List}
use mathlib.Core.Option.{Option, none, some}
use Prim.Native.Nat.{ℕ, ◌+◌, ◌*◌, ◌≤◌, ◌<◌}
use native.Mathlib.Omega.{arith}
use borrow.Author.Tests.{le-leb, ne_eqb, leb-true}
use lib.Dec.{leb}
use lib.ListN.{length}
use Rattle.model.specs.Plan as model
use Rattle.plan.specs.declared.Plan.{Plan}
use Rattle.plan.specs.Bytes as plans
use Rattle.plan.specs.Bytes.{thread_count, section_count, plan_of, number}
use Rattle.plan.specs.View.{Made}
use Rattle.plan.proofs.Laws.{number_some, first_within, threads_bytes, threads_view}
use Rattle.dump.specs.Layout.{record_count}
use Rattle.dump.specs.Questions.{most_records, has_length, has_kinds, has_operands, questions, refusal}

-- question q, of 1 to 8, refuses a plan or the dump or call list behind it
pub data Refused (calls_only : Bool) (plan list : List ℕ) (q : ℕ) : Type 0 where
  by_plan : plans.refusal plan ≡ some q → Refused calls_only plan list q
  by_list : plans.refusal plan ≡ none → refusal (thread_count plan) (section_count plan) calls_only list ≡ some q → Refused calls_only plan list q

-- the counts of a plan that is read are those of its bytes, so the same is refused with either
pub read_refusal : (plan : List ℕ) {p : Plan} → Made p (plan_of plan) → (calls_only : Bool) (list : List ℕ) → refusal p.threads p.sections calls_only list ≡ refusal (thread_count plan) (section_count plan) calls_only list
read_refusal plan {p} made calls_only list =
    let t : p.threads ≡ thread_count plan = sym (threads_view p) ∙ ap model.threads made.seen ∙ threads_bytes plan in
    let s : p.sections ≡ section_count plan = ap (λ (q : model.Plan). q.sections) made.seen in
    rw (t, s)

-- a number other than 0 that is answered of a plan, or with a plan that is read, refuses
module _ {calls_only : Bool} {plan list : List ℕ} {q : ℕ} where
  pub refused_plan : q ≡ number (plans.refusal plan) → (q ≡ 0 → ⊥) → Refused calls_only plan list q
  refused_plan e d = by_plan (number_some (plans.refusal plan) q e d)

  pub refused_list : plans.refusal plan ≡ none → {p : Plan} → Made p (plan_of plan) → q ≡ number (refusal p.threads p.sections calls_only list) → (q ≡ 0 → ⊥) → Refused calls_only plan list q
  refused_list a {p} made e d = by_list a (number_some (refusal (thread_count plan) (section_count plan) calls_only list) q (e ∙ ap number (read_refusal plan made calls_only list)) d)

-- which question refuses bytes that are longer than any N allows
abbrev pub too_long : (count : ℕ) → ℕ
too_long n = cond (leb n most_records) 6 5

module _ (threads sections : ℕ) (calls_only : Bool) (bytes : List ℕ) where
  pub too_long_lem : 2 + 3 * most_records < length bytes → refusal threads sections calls_only bytes ≡ some (too_long (record_count bytes))
  unfolding refusal questions
  too_long_lem h = rw (le-leb 2 (length bytes) (omega arith)) (go (leb n most_records) refl)
    where
      n : ℕ
      n = record_count bytes

      go : (x : Bool) → leb n most_records ≡ x
          → cond x (cond (has_length bytes) (cond (has_kinds calls_only bytes) (cond {A = Option ℕ} (has_operands threads sections bytes) none (some 8)) (some 7)) (some 6)) (some 5) ≡ some (cond x 6 5)
      go true e = rw (ne_eqb (length bytes) (2 + 3 * n) (λ q. omega (arith, leb-true n most_records e)))
      go false e = refl

  -- what refuses is one of questions 5 to 8
  pub refusal_within : (q : ℕ) → refusal threads sections calls_only bytes ≡ some q → q ≤ 8
  unfolding refusal questions
  refusal_within q e = first_within 8 (questions threads sections calls_only bytes) q tt e
