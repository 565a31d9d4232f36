-- What plan and dump tell that the whole check does not refuse, and what it answers where a question does or does not.
use mathlib.Core.Path.{◌≡◌, refl, sym, subst}
use mathlib.Core.Bool.{false}
use mathlib.Core.List.{List}
use mathlib.Core.Option.{Option, none, some, some-ne-none}
use Prim.Native.Nat.{ℕ}
use native.Mathlib.Omega.{arith}
use lib.Dec.{T}
use Rattle.model.specs.Searches.{all}
use Rattle.model.specs.Plan.{threads, valid_plan}
use Rattle.model.specs.Records.{allowed}
use Rattle.model.specs.Runs.{Verdict, judge}
use Rattle.plan.specs.Bytes as plans
use Rattle.plan.specs.Bytes.{thread_count, section_count, plan_of}
use Rattle.plan.proofs.Laws.{refusal_none_valid, threads_bytes}
use Rattle.dump.specs.Layout.{decode}
use Rattle.dump.specs.Questions as dumps
use Rattle.dump.proofs.Laws.{Refused, by_plan, by_list, decoded_allowed}
use Rattle.monitor.specs.Answers.{refused, judged, or_else, first_refusal, answer, check}

pub record Passed (plan dump : List ℕ) : Type 0 where
  -- no question refuses either
  pub plan' : plans.refusal plan ≡ none
  pub dump' : dumps.refusal (threads (plan_of plan)) (section_count plan) false dump ≡ none
  -- so the plan is valid, and every record is allowed
  pub valid : T (valid_plan (plan_of plan))
  pub operands : T (all (allowed (plan_of plan)) (decode dump))

pub passed : (plan dump : List ℕ) → first_refusal plan dump ≡ none → Passed plan dump
unfolding first_refusal
passed plan dump e =
    let q = neither (plans.refusal plan) (dumps.refusal (thread_count plan) (section_count plan) false dump) e in
    let d = subst (λ t. dumps.refusal t (section_count plan) false dump ≡ none) (sym (threads_bytes plan)) q.1 in
    record { plan' = q.0; dump' = d; valid = refusal_none_valid plan q.0; operands = decoded_allowed (plan_of plan) false dump d }
  where
    neither : (a b : Option ℕ) → or_else a b ≡ none → (a ≡ none) × (b ≡ none)
    neither none b i = (refl, i)
    neither (some n) b i = absurd (some-ne-none n i)

-- A verdict is that of the records which the dump stands for, under the plan that the plan's bytes stand for.
pub judged_passed : (plan dump : List ℕ) (v : Verdict) → check plan dump ≡ judged v → Passed plan dump × (judge (plan_of plan) (decode dump) ≡ v)
unfolding check
judged_passed plan dump v e = go (first_refusal plan dump) refl e
  where
    go : (o : Option ℕ) → first_refusal plan dump ≡ o → answer o (judge (plan_of plan) (decode dump)) ≡ judged v → Passed plan dump × (judge (plan_of plan) (decode dump) ≡ v)
    go none q i = (passed plan dump q, cc)
    go (some n) q i = let z : ◌≡◌ {A = ℕ} 0 1 = cc in absurd (omega arith)

-- Where nothing is refused the whole check answers the verdict.
pub unrefused_judged : (plan dump : List ℕ) (v : Verdict) → plans.refusal plan ≡ none → dumps.refusal (thread_count plan) (section_count plan) false dump ≡ none → judge (plan_of plan) (decode dump) ≡ v → check plan dump ≡ judged v
unfolding check first_refusal
unrefused_judged plan dump v p d e = rw (p, d, e)

-- Where a question refuses it answers the question's number.
pub refused_check : (plan dump : List ℕ) (q : ℕ) → Refused false plan dump q → check plan dump ≡ refused q
unfolding check first_refusal
refused_check plan dump q (by_plan e) = rw e
refused_check plan dump q (by_list e f) = rw (e, f)
