-- `needs_pass` meets its contract: a loop that asks whether all pass.
use mathlib.Core.Path.{sym, ◌∙◌}
use native.Mathlib.Omega.{arith}
use borrow.Author.Tests.{not-true, not-false}
use lib.ListN.{get_or}
use Rattle.plan.specs.Bytes.{needs_within}
use Rattle.model.proofs.Loops.{all_begin, passed, failed, all_passed}
use Rattle.plan.proofs.questions.needs_pass.Goals as goal

pub loop-t-init : goal.loop-t-init
loop-t-init c = all_begin (needs_within c.args.sections) (λ k. get_or c.args.needs k 0) c.args.threads

pub returns-then-not-needs_within : goal.returns-then-not-needs_within
returns-then-not-needs_within c =
    let a = c.args in
    let p = c.needs_within in
    failed (needs_within a.sections) (λ j. get_or a.needs j 0) a.threads c.loop-t.t (omega arith) c.loop-t.invariant (sym p.ensures ∙ not-true p.result c.if-not-needs_within.true-raw)

pub loop-t-preserved : goal.loop-t-preserved
loop-t-preserved c =
    let a = c.args in
    let p = c.needs_within in
    passed (needs_within a.sections) (λ j. get_or a.needs j 0) a.threads c.loop-t.t (omega arith) c.loop-t.invariant (sym p.ensures ∙ not-false p.result c.if-not-needs_within.false-raw)

pub returns : goal.returns
returns c =
    let a = c.args in
    all_passed (needs_within a.sections) (λ j. get_or a.needs j 0) a.threads c.loop-t.t (omega arith) c.loop-t.invariant
