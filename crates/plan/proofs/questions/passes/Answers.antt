-- `passes` meets its contract: the counts, then the bases, then the needs, as `valid_view` splits the definition. Where all sixteen entries pass, so do
-- those in use.
use mathlib.Core.Path.{◌≡◌, sym, ◌∙◌}
use mathlib.Core.Bool.{true, false, not}
use Prim.Native.Nat.{◌≤◌}
use borrow.Author.Tests.{not-true, not-false}
use lib.ListN.{get_or}
use Rattle.model.specs.Searches.{all}
use Rattle.model.proofs.Tests.{from_true}
use Rattle.plan.specs.Bytes.{in_range, is_priority, needs_within}
use Rattle.plan.specs.View.{in_use}
use Rattle.model.proofs.Loops.{all_of_more}
use Rattle.plan.proofs.Answers.{in_range_lem}
use Rattle.plan.proofs.Entries.{valid_view}
use Rattle.plan.proofs.questions.passes.Goals as goal
use Rattle.plan.proofs.questions.passes.Goals.{Else-not-in_range, Joined-not-all_priorities, else-not-all_priorities, then-not-all_priorities+else-not-bases_pass}

counted : (c : goal.Else-not-in_range) → in_range c.args.plan.threads c.args.plan.sections ≡ true
counted c = sym c.in_range.ensures ∙ not-false c.in_range.result c.if-not-in_range.false-raw

ranged : (c : goal.Else-not-in_range) → (c.args.plan.threads ≤ 16) × (c.args.plan.sections ≤ 16)
ranged c =
    let p = c.args.plan in
    in_range_lem p.threads p.sections (from_true _ (counted c))

-- where all sixteen bases pass, so do those in use
sixteen : (c : goal.Joined-not-all_priorities) → not c.all_priorities.result ≡ false → all is_priority (in_use c.args.plan.threads c.args.plan.bases) ≡ true
sixteen c e =
    let p = c.args.plan in
    let a = c.all_priorities in
    all_of_more is_priority (λ t. get_or p.bases t 0) p.threads 16 (ranged c.before.before.before).0 (sym a.ensures ∙ not-false a.result e)

pub returns-then-not-in_range : goal.returns-then-not-in_range
returns-then-not-in_range c =
    rw (valid_view c.args.plan, ← c.in_range.ensures, not-true c.in_range.result c.if-not-in_range.true-raw)

pub returns-then-not-bases_pass : goal.returns-then-not-bases_pass
returns-then-not-bases_pass c =
    rw (valid_view c.args.plan, counted (goal.at.returns-then-not-bases_pass c).Else-not-in_range, ← c.bases_pass.ensures, not-true c.bases_pass.result c.if-not-bases_pass.true-raw)

pub returns-then-all_within : goal.returns-then-all_within
returns-then-all_within c =
    let p = c.args.plan in
    let w = c.all_within in
    let j = (goal.at.returns-then-all_within c).Joined-not-all_priorities in
    let bases : all is_priority (in_use p.threads p.bases) ≡ true =
    elim c.if-not-all_priorities.branch [ then-not-all_priorities+else-not-bases_pass u ↦ sym u.bases_pass.ensures ∙ not-false u.bases_pass.result u.if-not-bases_pass.false-raw | else-not-all_priorities u ↦ sixteen j u.if-not-all_priorities.false-raw ] in
    rw (valid_view p, counted (goal.at.returns-then-all_within c).Else-not-in_range, bases)
    (sym (all_of_more (needs_within p.sections) (λ t. get_or p.needs t 0) p.threads 16 (ranged (goal.at.returns-then-all_within c).Else-not-in_range).0 (sym w.ensures ∙ c.if-all_within.true)))

pub returns : goal.returns
returns c =
    let p = c.args.plan in
    let j = (goal.at.returns c).Joined-not-all_priorities in
    let bases : all is_priority (in_use p.threads p.bases) ≡ true =
    elim c.if-not-all_priorities.branch [ then-not-all_priorities+else-not-bases_pass w ↦ sym w.bases_pass.ensures ∙ not-false w.bases_pass.result w.if-not-bases_pass.false-raw | else-not-all_priorities w ↦ sixteen j w.if-not-all_priorities.false-raw ] in
    rw (valid_view p, counted (goal.at.returns c).Else-not-in_range, bases) c.needs_pass.ensures
