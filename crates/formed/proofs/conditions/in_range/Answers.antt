-- `conditions::in_range` meets its contract: a loop that asks whether all pass.
use mathlib.Core.Path.{◌≡◌, sym, ◌∙◌}
use native.Mathlib.Omega.{arith}
use borrow.Author.Tests.{not-true, not-false}
use Rattle.model.specs.Formed.{condition_in_range}
use Rattle.model.proofs.Loops.{all_begin, passed, failed, all_passed}
use Rattle.machine.specs.View.{condition_in}
use Rattle.formed.proofs.conditions.in_range.Goals as goal
use Rattle.formed.proofs.conditions.in_range.Goals.{After-slot_in_range, At-loop-t}

pub loop-t-init : goal.loop-t-init
loop-t-init c =
    let m = c.args.m in
    all_begin (condition_in_range m.plan.sections) (condition_in m.slots m.wakes) m.plan.threads

-- what is asked of a thread in a turn
turned : (c : goal.After-slot_in_range)
    → let m = c.args.m in
    c.slot_in_range.result ≡ condition_in_range m.plan.sections (condition_in m.slots m.wakes c.loop-t.t)
turned c = c.slot_in_range.ensures ∙ (rw (c.nibble_at-state.ensures, c.nibble_at-want.ensures))

pub returns-then-not-slot_in_range : goal.returns-then-not-slot_in_range
returns-then-not-slot_in_range c =
    let m = c.args.m in
    failed (condition_in_range m.plan.sections) (condition_in m.slots m.wakes) m.plan.threads c.loop-t.t (omega arith) c.loop-t.invariant
    (sym (turned (goal.at.returns-then-not-slot_in_range c).After-slot_in_range) ∙ not-true c.slot_in_range.result c.if-not-slot_in_range.true-raw)

pub loop-t-preserved : goal.loop-t-preserved
loop-t-preserved c =
    let m = c.args.m in
    passed (condition_in_range m.plan.sections) (condition_in m.slots m.wakes) m.plan.threads c.loop-t.t (omega arith) c.loop-t.invariant
    (sym (turned (goal.at.loop-t-preserved c).After-slot_in_range) ∙ not-false c.slot_in_range.result c.if-not-slot_in_range.false-raw)

pub returns : goal.returns
returns c =
    let m = c.args.m in
    all_passed (condition_in_range m.plan.sections) (condition_in m.slots m.wakes) m.plan.threads c.loop-t.t (omega arith) c.loop-t.invariant
