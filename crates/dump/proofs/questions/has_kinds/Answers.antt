-- `has_kinds` meets its contract: a loop that asks whether all pass.
use mathlib.Core.Path.{◌≡◌, ap, sym, ◌∙◌}
use native.Mathlib.Omega.{arith}
use borrow.Author.Tests.{not-true, not-false}
use Rattle.dump.specs.Layout.{record_count}
use Rattle.dump.specs.Questions.{kind_allowed}
use Rattle.dump.proofs.Asking.{passes, fails}
use Rattle.dump.proofs.questions.has_kinds.Invariants.{asked}
use Rattle.dump.proofs.questions.has_kinds.Goals as goal
use Rattle.dump.proofs.questions.has_kinds.Goals.{After-kind_allowed, At-loop-i}

-- the answer of a turn is that of the definition
answered : (c : goal.After-kind_allowed)
    → (let a = c.args in c.kind_allowed.result ≡ asked a.list a.bytes.now c.loop-i.i)
answered c =
    let a = c.args in
    c.kind_allowed.ensures ∙ ap (kind_allowed a.list) c.kind_at.ensures

pub returns-then-not-kind_allowed : goal.returns-then-not-kind_allowed
returns-then-not-kind_allowed c =
    let a = c.args in
    fails (asked a.list a.bytes.now) (record_count a.bytes.now) c.loop-i.i c.loop-i.invariant (omega arith)
    (sym (answered (goal.at.returns-then-not-kind_allowed c).After-kind_allowed) ∙ not-true c.kind_allowed.result c.if-not-kind_allowed.true-raw)

pub loop-i-preserved : goal.loop-i-preserved
loop-i-preserved c =
    let a = c.args in
    passes (asked a.list a.bytes.now) (record_count a.bytes.now) c.loop-i.i c.loop-i.invariant (omega arith)
    (sym (answered (goal.at.loop-i-preserved c).After-kind_allowed) ∙ not-false c.kind_allowed.result c.if-not-kind_allowed.false-raw)
