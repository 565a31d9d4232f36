-- `ask` meets its contract: the questions are asked in their order, and the first No ends.
use mathlib.Core.Path.{◌≡◌, sym, ◌∙◌}
use mathlib.Core.Bool.{true}
use borrow.Author.Tests.{not-true, not-false}
use Rattle.plan.specs.Bytes.{has_counts, has_length, has_priorities, questions, refusal}
use Rattle.plan.proofs.bytes.ask.Goals as goal
use Rattle.plan.proofs.bytes.ask.Goals.{Else-not-has_counts, Else-not-has_length, Else-not-has_priorities}

counts : (c : goal.Else-not-has_counts) → has_counts c.args.bytes.now ≡ true
counts c = sym c.has_counts.ensures ∙ not-false c.has_counts.result c.if-not-has_counts.false-raw

size : (c : goal.Else-not-has_length) → has_length c.args.bytes.now ≡ true
size c = sym c.has_length.ensures ∙ not-false c.has_length.result c.if-not-has_length.false-raw

priorities : (c : goal.Else-not-has_priorities) → has_priorities c.args.bytes.now ≡ true
priorities c = sym c.has_priorities.ensures ∙ not-false c.has_priorities.result c.if-not-has_priorities.false-raw

pub returns-then-not-has_counts : goal.returns-then-not-has_counts
unfolding refusal questions
returns-then-not-has_counts c = rw (← c.has_counts.ensures, not-true c.has_counts.result c.if-not-has_counts.true-raw)

pub returns-then-not-has_length : goal.returns-then-not-has_length
unfolding refusal questions
returns-then-not-has_length c = rw (counts (goal.at.returns-then-not-has_length c).Else-not-has_counts, ← c.has_length.ensures, not-true c.has_length.result c.if-not-has_length.true-raw)

pub returns-then-not-has_priorities : goal.returns-then-not-has_priorities
unfolding refusal questions
returns-then-not-has_priorities c =
    rw (counts (goal.at.returns-then-not-has_priorities c).Else-not-has_counts, size (goal.at.returns-then-not-has_priorities c).Else-not-has_length, ← c.has_priorities.ensures, not-true c.has_priorities.result c.if-not-has_priorities.true-raw)

pub returns-then-not-has_needs : goal.returns-then-not-has_needs
unfolding refusal questions
returns-then-not-has_needs c =
    rw (counts (goal.at.returns-then-not-has_needs c).Else-not-has_counts, size (goal.at.returns-then-not-has_needs c).Else-not-has_length, priorities (goal.at.returns-then-not-has_needs c).Else-not-has_priorities, ← c.has_needs.ensures, not-true c.has_needs.result c.if-not-has_needs.true-raw)

pub returns : goal.returns
unfolding refusal questions
returns c =
    rw (counts (goal.at.returns c).Else-not-has_counts, size (goal.at.returns c).Else-not-has_length, priorities (goal.at.returns c).Else-not-has_priorities, ← c.has_needs.ensures, not-false c.has_needs.result c.if-not-has_needs.false-raw)
