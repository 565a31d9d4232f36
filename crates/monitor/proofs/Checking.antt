-- The whole check of plan and dump that no question refuses: what its walk asks, and what `check` of the specs is where the walk ends.
use mathlib.Core.Path.{◌≡◌, refl, ap, sym, subst, ◌∙◌}
use mathlib.Core.Logic.{inl}
use mathlib.Core.Bool.{true, false, cond}
use mathlib.Core.List.{List, map}
use mathlib.Core.Option.{none}
use Prim.Native.Nat.{ℕ, ◌≤◌}
use native.Mathlib.Omega.{arith}
use lib.Dec.{T}
use lib.ListN.{length}
use Rattle.std.specs.Prelude.{is_ok}
use Rattle.model.specs.Searches.{up_to}
use Rattle.model.specs.Plan as model
use Rattle.model.specs.State as state
use Rattle.model.specs.State.{start}
use Rattle.model.specs.Runs.{clean, breach, run, judge}
use Rattle.model.proofs.Laws.{Reached, begin, judge_run, clean_count}
use Rattle.plan.specs.Bytes as bytes
use Rattle.plan.specs.View as plans
use Rattle.plan.specs.declared.Plan.{Plan}
use Rattle.plan.proofs.Laws.{refusal_none_valid}
use Rattle.machine.specs.declared.state.State.{State}
use Rattle.machine.specs.View.{plan_of, view}
use Rattle.machine.specs.Rules.{answer_number}
use Rattle.machine.specs.Clauses.{Fresh}
use Rattle.machine.proofs.Laws.{ceilings_of}
use Rattle.dump.specs.Layout.{record_count, kind_at, operand_at, decode, part}
use Rattle.dump.specs.Questions as dumps
use Rattle.dump.specs.Questions.{most_records, operand_fits}
use Rattle.dump.proofs.Laws.{read_refusal, accepted, entry_passes, decode-length, part_all}
use Rattle.walk.specs.declared.walk.Walked.{Walked}
use Rattle.monitor.specs.Answers.{judged, check}
use Rattle.walk.specs.Clauses.{Walks, WalkEnds}
use Rattle.monitor.proofs.Passed.{unrefused_judged}

-- neither plan nor dump is refused, and the plan is read
pub record Unrefused (plan dump : List ℕ) (p : Plan) : Type 0 where
  pub plan' : bytes.refusal plan ≡ none
  pub read : plans.Made p (bytes.plan_of plan)
  pub dump' : dumps.refusal p.threads p.sections false dump ≡ none

module _ {plan dump : List ℕ} {p : Plan} (u : Unrefused plan dump p) where
  -- N may be read, and is small
  pub check_counts : 2 ≤ length dump
  check_counts = omega (arith, (accepted p.threads p.sections false dump u.dump').0.size)

  pub check_few : {n : ℕ} → n ≡ record_count dump → n ≤ most_records
  check_few e = omega (arith, e, (accepted p.threads p.sections false dump u.dump').0.count)

  judges : check plan dump ≡ judged (judge (bytes.plan_of plan) (decode dump))
  judges = unrefused_judged plan dump _ u.plan' (sym (read_refusal plan u.read false dump) ∙ u.dump') refl

  module _ {s : State} (f : Fresh s p) where
    same_plan : plan_of s.machine ≡ bytes.plan_of plan
    same_plan = ap plans.view f.plan' ∙ u.read.seen

    begins : view s ≡ start (plan_of s.machine)
    begins = f.seen ∙ ap (λ (q : Plan). start (plans.view q)) (sym f.plan')

    -- the walk over the dump may begin
    pub check_walks : {ceilings : List ℕ} {n : ℕ} → ceilings ≡ map (model.ceiling (plans.view p)) (up_to 16) → n ≡ record_count dump → Walks s ceilings dump 0 n
    check_walks {ceilings} {n} c e =
        let a = accepted p.threads p.sections false dump u.dump' in
        let tick : (view s).tick_number ≡ 0 = ap (λ (st : state.State). st.tick_number) begins in
        record {
          valid = subst (λ (q : model.Plan). T (model.valid_plan q)) (sym same_plan) (refusal_none_valid plan u.plan');
          ceilings' = ceilings_of s.machine p ceilings f.plan' c;
          keeps = f.keeps;
          whole = a.0;
          within = omega (arith, e);
          operands = λ i l h. subst (λ (q : Plan). T (operand_fits q.threads q.sections (kind_at dump i) (operand_at dump i))) (sym f.plan') (entry_passes p.threads p.sections false dump u.dump' i (omega (arith, e))).1;
          safe = inl (record { reached = subst (Reached (plan_of s.machine)) (sym begins) begin; room = omega (arith, a.0.count, e) });
        }

    module _ {w : Walked} {n : ℕ} (to : n ≡ record_count dump) (z : WalkEnds w s dump 0 n) where
      ended : cond (is_ok w.rule) (clean w.at (length (view w.state).due)) (breach w.at (answer_number w.rule)) ≡ judge (bytes.plan_of plan) (decode dump)
      ended =
          z.verdict ∙ ap (λ l. run (plan_of s.machine) 0 l (view s)) (ap (part dump 0) to ∙ part_all dump) ∙ ap (run (plan_of s.machine) 0 (decode dump)) begins
          ∙ sym (judge_run (plan_of s.machine) (decode dump)) ∙ ap (λ (q : model.Plan). judge q (decode dump)) same_plan

      -- the walk ends at a record that breaks a rule
      pub check_breach : is_ok w.rule ≡ false → judged (breach w.at (answer_number w.rule)) ≡ check plan dump
      check_breach d = ap judged (rw d at ended) ∙ sym judges

      -- the walk ends behind the last record
      pub check_clean : {d : ℕ} → is_ok w.rule ≡ true → d ≡ length (view w.state).due → judged (clean n d) ≡ check plan dump
      check_clean k i =
          let v : clean w.at (length (view w.state).due) ≡ judge (bytes.plan_of plan) (decode dump) = rw k at ended in
          let at : n ≡ w.at = to ∙ sym (decode-length dump) ∙ sym (clean_count (bytes.plan_of plan) (decode dump) w.at _ (sym v)).0 in
          rw (at, i) (ap judged v ∙ sym judges)
