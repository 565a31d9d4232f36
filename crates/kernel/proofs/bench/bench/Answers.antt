-- `bench` meets its contract: the first question with the answer No refuses, and where every answer is Yes the dump is written.
use mathlib.Core.Path.{sym, subst, ◌∙◌}
use mathlib.Core.Bool.{true}
use native.Mathlib.Omega.{arith}
use lib.Dec.{T}
use Rattle.std.proofs.lemmas.Result.{err_from_is_err_and}
use Rattle.model.specs.Plan.{valid_plan}
use Rattle.plan.proofs.Laws.{refusal_none_valid}
use Rattle.dump.proofs.Laws.{by_plan, by_list, read_refusal, whole}
use Rattle.kernel.specs.Clauses.{Passed}
use Rattle.kernel.proofs.Answering.{refused_by, not_admitted, too_many, no_space, fits, written}
use Rattle.kernel.proofs.bench.bench.Goals as goal
use Rattle.kernel.proofs.bench.bench.Goals.{After-record_count-calls}

pub returns-in_err-p : goal.returns-in_err-p
returns-in_err-p c =
    let a = c.args in
    let e = err_from_is_err_and c.from_residual.result c.from_residual.ensures.1 in
    rw (e.1, e.2) (refused_by a.plan.now a.list.now a.out.now _ (by_plan (sym c.in_err-p.ensures.refusal)))

pub returns-in_err-ask : goal.returns-in_err-ask
returns-in_err-ask c =
    let a = c.args in
    let e = err_from_is_err_and c.from_residual-in_err-ask.result c.from_residual-in_err-ask.ensures.1 in
    rw (e.1, e.2) (refused_by a.plan.now a.list.now a.out.now _ (by_list (sym c.in_ok-p.ensures.refusal) (sym (read_refusal a.plan.now c.in_ok-p.ensures.plan true a.list.now) ∙ sym c.in_err-ask.ensures)))

pub record_count-calls-requires : goal.record_count-calls-requires
record_count-calls-requires c =
    let p = c.in_ok-p.p in
    omega (arith, (whole p.threads p.sections true c.args.list.now (sym c.in_ok-ask.ensures)).size)

-- what both runs over the calls ask
passed : (c : After-record_count-calls) → Passed c.in_ok-p.p c.ceilings-all.result c.args.list.now c.record_count-calls.result
passed c =
    record {
      valid = subst (λ p. T (valid_plan p)) (sym c.in_ok-p.ensures.plan.seen) (refusal_none_valid c.args.plan.now (sym c.in_ok-p.ensures.refusal));
      ceilings' = c.ceilings-all.ensures;
      passes = sym c.in_ok-ask.ensures;
      count = c.record_count-calls.ensures;
    }

pub tally-requires : goal.tally-requires
tally-requires c = passed (goal.at.tally-requires c).After-record_count-calls

pub returns-in_default : goal.returns-in_default
returns-in_default c =
    let a = c.args in
    not_admitted a.plan.now a.list.now a.out.now c.in_ok-p.ensures.plan (sym c.in_ok-p.ensures.refusal) (sym c.in_ok-ask.ensures) (sym c.in_default.is ∙ c.tally.ensures)

pub returns-then-n-gt-MOST_RECORDS : goal.returns-then-n-gt-MOST_RECORDS
returns-then-n-gt-MOST_RECORDS c =
    let a = c.args in
    too_many a.plan.now a.list.now a.out.now c.in_ok-p.ensures.plan (sym c.in_ok-p.ensures.refusal) (sym c.in_ok-ask.ensures) c.in-Some.ensures (omega (arith, c.if-n-gt-MOST_RECORDS.true))

pub returns-then-out-n : goal.returns-then-out-n
returns-then-out-n c =
    let a = c.args in
    no_space a.plan.now a.list.now a.out.now c.in_ok-p.ensures.plan (sym c.in_ok-p.ensures.refusal) (sym c.in_ok-ask.ensures) c.in-Some.ensures c.if-n-gt-MOST_RECORDS.false c.if-out-n.true

pub write-requires : goal.write-requires
write-requires c =
    let a = c.args in (
      passed (goal.at.write-requires c).After-record_count-calls,
      fits a.plan.now a.list.now a.out.now c.in_ok-p.ensures.plan (sym c.in_ok-p.ensures.refusal) (sym c.in_ok-ask.ensures) c.in-Some.ensures c.if-n-gt-MOST_RECORDS.false c.if-out-n.false,
    )

pub returns : goal.returns
returns c =
    let a = c.args in
    written a.plan.now a.list.now a.out.now c.in_ok-p.ensures.plan (sym c.in_ok-p.ensures.refusal) (sym c.in_ok-ask.ensures) c.in-Some.ensures c.if-n-gt-MOST_RECORDS.false c.write.new.out c.write.ensures c.if-out-n.false
