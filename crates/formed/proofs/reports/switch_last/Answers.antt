-- `switch_last` meets its contract: what the library says of `all`, in the model's words.
use mathlib.Core.Path.{ap, sym, ◌∙◌}
use mathlib.Core.Logic.{◌↔◌}
use mathlib.Core.Bool.{not}
use mathlib.Core.List.{map}
use borrow.Author.Rules.{rules}
use Rattle.std.specs.Bool.{IsTrue}
use Rattle.std.specs.List.{AllPass}
use Rattle.std.proofs.iter.runs.Made.{chains}
use Rattle.model.specs.Records.{is_switch}
use Rattle.model.specs.Formed.{switch_last}
use Rattle.due.specs.Lists.{report_of}
use Rattle.due.proofs.Laws.{switch_is}
use Rattle.formed.proofs.Slices.{answers, last_of}
use Rattle.formed.proofs.reports.switch_last.Goals as goal

pub returns-in-Some : goal.returns-in-Some
returns-in-Some c =
    let before = c.in-Some.before.now in
    let h : IsTrue c.all.result ↔ AllPass (λ r. not (is_switch (report_of r))) before = search (rules, chains, switch_is) in
    answers (λ d. not (is_switch d)) report_of before c.all.result h
    ∙ last_of before c.in-Some.field-0-0.now
    ∙ ap (λ l. switch_last (map report_of l)) (sym c.in-Some.ensures.cases.0)
