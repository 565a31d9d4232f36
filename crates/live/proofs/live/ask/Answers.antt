-- `ask` meets its contract: 12 is answered before what was found of the record.
use mathlib.Core.Path.{◌≡◌, sym, ◌∙◌}
use mathlib.Core.Bool.{true}
use borrow.Author.Tests.{not-true, not-false}
use Rattle.machine.specs.Kept.{sound}
use Rattle.live.specs.Watching.{refusal}
use Rattle.live.proofs.live.ask.Goals as goal
use Rattle.live.proofs.live.ask.Goals.{Else-not-formed, then-not-formed-via-else-not-formed+then-not-is_rule, then-not-formed-via-then-not-formed}

-- what the answer Yes to 12 says
well_formed : (c : goal.Else-not-formed) → sound c.args.watch.state ≡ true
well_formed c = sym c.formed.ensures ∙ not-false c.formed.result c.if-not-formed.false-raw

pub returns-then-not-formed : goal.returns-then-not-formed
unfolding refusal
returns-then-not-formed c =
    elim c.then-not-formed.branch [ then-not-formed-via-then-not-formed w ↦ rw (← c.formed.ensures, not-true c.formed.result w.if-not-formed.true-raw) | then-not-formed-via-else-not-formed+then-not-is_rule w ↦ rw (sym c.formed.ensures ∙ not-false c.formed.result w.if-not-formed.false-raw, ← w.is_rule.ensures, not-true w.is_rule.result w.if-not-is_rule.true-raw) ]

pub returns : goal.returns
unfolding refusal
returns c =
    rw (well_formed (goal.at.returns c).Else-not-formed, sym c.is_rule.ensures ∙ not-false c.is_rule.result c.if-not-is_rule.false-raw) c.ask_record-later.ensures
