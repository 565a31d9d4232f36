-- `check` meets its contract: the questions to the plan, those to the dump, and the walk over its records from the start.
use mathlib.Core.Path.{◌≡◌, ap, sym, ◌∙◌}
use mathlib.Core.Bool.{false}
use Rattle.std.proofs.lemmas.Result.{err_from_is_err_and}
use Rattle.std.specs.Prelude.{is_ok}
use Rattle.machine.specs.Rules.{number_of, answer_number}
use Rattle.dump.specs.Layout.{running_place}
use Rattle.dump.proofs.Laws.{by_plan, by_list, read_refusal}
use Rattle.model.specs.Runs.{breach}
use Rattle.monitor.specs.Answers.{judged}
use Rattle.monitor.proofs.Passed.{refused_check}
use Rattle.monitor.proofs.Checking.{Unrefused, check_counts, check_few, check_walks, check_breach, check_clean}
use Rattle.monitor.proofs.check.check.Goals as goal
use Rattle.monitor.proofs.check.check.Goals.{After-ceilings-all}

pub returns-in_err-p : goal.returns-in_err-p
returns-in_err-p c =
    let a = c.args in
    let e = err_from_is_err_and c.from_residual.result c.from_residual.ensures.1 in
    rw (e.1, e.2) (sym (refused_check a.plan.now a.dump.now _ (by_plan (sym c.in_err-p.ensures.refusal))))

pub returns-in_err-ask : goal.returns-in_err-ask
returns-in_err-ask c =
    let a = c.args in
    let e = err_from_is_err_and c.from_residual-in_err-ask.result c.from_residual-in_err-ask.ensures.1 in
    rw (e.1, e.2) (sym (refused_check a.plan.now a.dump.now _ (by_list (sym c.in_ok-p.ensures.refusal) (sym (read_refusal a.plan.now c.in_ok-p.ensures.plan false a.dump.now) ∙ sym c.in_err-ask.ensures))))

-- nothing refuses plan and dump
unrefused : (c : After-ceilings-all) → (let a = c.args in Unrefused a.plan.now a.dump.now c.in_ok-p.p)
unrefused c =
    record {
      plan' = sym c.in_ok-p.ensures.refusal;
      read = c.in_ok-p.ensures.plan;
      dump' = sym c.in_ok-ask.ensures;
    }

pub record_count-n-requires : goal.record_count-n-requires
record_count-n-requires c = check_counts (unrefused (goal.at.record_count-n-requires c).After-ceilings-all)

pub first_operand-requires : goal.first_operand-requires
first_operand-requires c = check_few (unrefused (goal.at.first_operand-requires c).After-ceilings-all) c.record_count-n.ensures

pub walk-w-requires : goal.walk-w-requires
walk-w-requires c =
    (check_walks (unrefused (goal.at.walk-w-requires c).After-ceilings-all) c.fresh.ensures c.ceilings-all.ensures c.record_count-n.ensures, c.first_operand.ensures ∙ ap (λ m. running_place m 0) c.record_count-n.ensures)

pub returns-in-Err : goal.returns-in-Err
returns-in-Err c =
    let told : number_of c.in-Err.rule ≡ answer_number c.walk-w.result.rule = ap answer_number (sym c.in-Err.is) in
    ap (λ r. judged (breach c.walk-w.result.at r)) told ∙ check_breach (unrefused (goal.at.returns-in-Err c).After-ceilings-all) c.fresh.ensures c.record_count-n.ensures c.walk-w.ensures (ap is_ok c.in-Err.is)

pub returns : goal.returns
returns c =
    check_clean (unrefused (goal.at.returns c).After-ceilings-all) c.fresh.ensures c.record_count-n.ensures c.walk-w.ensures (ap is_ok c.in_default.is) c.due_count.ensures
