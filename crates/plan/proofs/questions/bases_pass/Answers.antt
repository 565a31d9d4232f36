-- `bases_pass` meets its contract: a loop that asks whether all pass.
use mathlib.Core.Path.{sym, ◌∙◌}
use native.Mathlib.Omega.{arith}
use borrow.Author.Tests.{not-true, not-false}
use lib.ListN.{get_or}
use Rattle.plan.specs.Bytes.{is_priority}
use Rattle.model.proofs.Loops.{all_begin, passed, failed, all_passed}
use Rattle.plan.proofs.questions.bases_pass.Goals as goal

pub loop-t-init : goal.loop-t-init
loop-t-init c = all_begin is_priority (λ k. get_or c.args.bases k 0) c.args.threads

pub returns-then-not-is_priority : goal.returns-then-not-is_priority
returns-then-not-is_priority c =
    let p = c.is_priority in
    failed is_priority (λ j. get_or c.args.bases j 0) c.args.threads c.loop-t.t (omega arith) c.loop-t.invariant (sym p.ensures ∙ not-true p.result c.if-not-is_priority.true-raw)

pub loop-t-preserved : goal.loop-t-preserved
loop-t-preserved c =
    let p = c.is_priority in
    passed is_priority (λ j. get_or c.args.bases j 0) c.args.threads c.loop-t.t (omega arith) c.loop-t.invariant (sym p.ensures ∙ not-false p.result c.if-not-is_priority.false-raw)

pub returns : goal.returns
returns c =
    all_passed is_priority (λ j. get_or c.args.bases j 0) c.args.threads c.loop-t.t (omega arith) c.loop-t.invariant
