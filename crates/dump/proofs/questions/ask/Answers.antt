-- `ask` meets its contract: the questions are asked in their order, 7 and 8 at once first, and where one of them has the answer No, 7 alone.
use mathlib.Core.Path.{◌≡◌, ap, sym, ◌∙◌}
use mathlib.Core.Bool.{true, false, ◌&&◌}
use borrow.Author.Tests.{not-true, not-false}
use Rattle.model.proofs.Tests.{is_true, from_true, and_left, and_right}
use Rattle.dump.specs.Questions.{has_count, has_length, has_kinds, has_operands, questions, refusal}
use Rattle.dump.proofs.questions.ask.Goals as goal
use Rattle.dump.proofs.questions.ask.Goals.{Else-not-has_count, Else-not-has_kinds, Else-not-has_length, Then-has_records}

count : (c : goal.Else-not-has_count) → has_count c.args.bytes.now ≡ true
count c = sym c.has_count.ensures ∙ not-false c.has_count.result c.if-not-has_count.false-raw

size : (c : goal.Else-not-has_length) → has_length c.args.bytes.now ≡ true
size c = sym c.has_length.ensures ∙ not-false c.has_length.result c.if-not-has_length.false-raw

both_yes : (c : goal.Then-has_records) → (((let a = c.args in has_kinds a.list a.bytes.now) ≡ true) × ((let a = c.args in has_operands a.threads a.sections a.bytes.now) ≡ true))
both_yes c =
    let t = from_true ((let a = c.args in has_kinds a.list a.bytes.now) && (let a = c.args in has_operands a.threads a.sections a.bytes.now)) (sym c.has_records.ensures ∙ c.if-has_records.true) in
    (is_true ((let a = c.args in has_kinds a.list a.bytes.now)) (and_left ((let a = c.args in has_kinds a.list a.bytes.now)) ((let a = c.args in has_operands a.threads a.sections a.bytes.now)) t), is_true ((let a = c.args in has_operands a.threads a.sections a.bytes.now)) (and_right ((let a = c.args in has_kinds a.list a.bytes.now)) ((let a = c.args in has_operands a.threads a.sections a.bytes.now)) t))

-- with every kind allowed, it is an operand that is not
operands-no : (c : goal.Else-not-has_kinds) → (let a = c.args in has_kinds a.list a.bytes.now) ≡ true → (let a = c.args in has_operands a.threads a.sections a.bytes.now) ≡ false
operands-no c kinds =
    sym (ap (λ b. b && (let a = c.args in has_operands a.threads a.sections a.bytes.now)) kinds) ∙ sym c.has_records.ensures ∙ c.if-has_records.false

pub returns-then-not-has_count : goal.returns-then-not-has_count
unfolding refusal questions
returns-then-not-has_count c = rw (← c.has_count.ensures, not-true c.has_count.result c.if-not-has_count.true-raw)

pub returns-then-not-has_length : goal.returns-then-not-has_length
unfolding refusal questions
returns-then-not-has_length c = rw (count (goal.at.returns-then-not-has_length c).Else-not-has_count, ← c.has_length.ensures, not-true c.has_length.result c.if-not-has_length.true-raw)

pub returns-then-has_records : goal.returns-then-has_records
unfolding refusal questions
returns-then-has_records c = rw (count (goal.at.returns-then-has_records c).Else-not-has_count, size (goal.at.returns-then-has_records c).Else-not-has_length, (both_yes (goal.at.returns-then-has_records c).Then-has_records).0, (both_yes (goal.at.returns-then-has_records c).Then-has_records).1)

pub returns-then-not-has_kinds : goal.returns-then-not-has_kinds
unfolding refusal questions
returns-then-not-has_kinds c =
    rw (count (goal.at.returns-then-not-has_kinds c).Else-not-has_count, size (goal.at.returns-then-not-has_kinds c).Else-not-has_length, ← c.has_kinds.ensures, not-true c.has_kinds.result c.if-not-has_kinds.true-raw)

pub returns : goal.returns
unfolding refusal questions
returns c =
    let kinds : has_kinds c.args.list c.args.bytes.now ≡ true = sym c.has_kinds.ensures ∙ not-false c.has_kinds.result c.if-not-has_kinds.false-raw in
    rw (count (goal.at.returns c).Else-not-has_count, size (goal.at.returns c).Else-not-has_length, kinds, operands-no (goal.at.returns c).Else-not-has_kinds kinds)
