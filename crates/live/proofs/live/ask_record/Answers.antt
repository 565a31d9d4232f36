-- `ask_record` meets its contract: the questions are asked in their order, and the first No ends.
use mathlib.Core.Path.{◌≡◌, sym, ◌∙◌}
use mathlib.Core.Bool.{true, false}
use borrow.Author.Tests.{eq-eqb, ne_eqb, not-true, not-false}
use Rattle.plan.specs.declared.Plan.{Plan}
use Rattle.plan.proofs.Laws.{threads_view}
use Rattle.dump.specs.Questions.{kind_allowed, operand_fits}
use Rattle.live.proofs.live.ask_record.Goals as goal
use Rattle.live.proofs.live.ask_record.Goals.{Else-not-kind_allowed, Else-not-operand_fits, else-kind-eq7-via-else-kind-eq7, else-kind-eq7-via-then-kind-eq7+else-t}

-- the plan that the lent state carries
abbrev plan : goal.Else-not-kind_allowed → Plan
plan c = c.args.watch.state.machine.plan

kind : (c : goal.Else-not-kind_allowed) → kind_allowed false c.args.kind ≡ true
kind c = sym c.kind_allowed.ensures ∙ not-false c.kind_allowed.result c.if-not-kind_allowed.false-raw

operand : (c : goal.Else-not-operand_fits) → (let a = c.args in operand_fits ((c.args.watch.state.machine.plan)).threads ((c.args.watch.state.machine.plan)).sections a.kind a.operand ≡ true)
operand c = sym c.operand_fits.ensures ∙ not-false c.operand_fits.result c.if-not-operand_fits.false-raw

pub returns-then-not-kind_allowed : goal.returns-then-not-kind_allowed
returns-then-not-kind_allowed c = rw (← c.kind_allowed.ensures, not-true c.kind_allowed.result c.if-not-kind_allowed.true-raw)

pub returns-then-not-operand_fits : goal.returns-then-not-operand_fits
returns-then-not-operand_fits c =
    rw (kind (goal.at.returns-then-not-operand_fits c).Else-not-kind_allowed, threads_view (plan (goal.at.returns-then-not-operand_fits c).Else-not-kind_allowed), ← c.operand_fits.ensures, not-true c.operand_fits.result c.if-not-operand_fits.true-raw)

pub returns-then-t : goal.returns-then-t
returns-then-t c =
    rw (kind (goal.at.returns-then-t c).Else-not-kind_allowed, threads_view (plan (goal.at.returns-then-t c).Else-not-kind_allowed), operand (goal.at.returns-then-t c).Else-not-operand_fits, eq-eqb _ 7 c.if-kind-eq7.true, c.if-t.true-raw)

pub returns : goal.returns
returns c =
    rw (kind (goal.at.returns c).Else-not-kind_allowed, threads_view (plan (goal.at.returns c).Else-not-kind_allowed), operand (goal.at.returns c).Else-not-operand_fits) (elim c.else-kind-eq7.branch [ else-kind-eq7-via-then-kind-eq7+else-t w ↦ rw (eq-eqb _ 7 w.if-kind-eq7.true, w.if-t.false-raw) | else-kind-eq7-via-else-kind-eq7 w ↦ rw (ne_eqb _ 7 w.if-kind-eq7.false) ])
