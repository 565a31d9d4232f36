-- `but_switch` meets its contract: what the library says of `count`, in the model's words.
use mathlib.Core.Path.{◌≡◌, ◌∙◌}
use mathlib.Core.Bool.{not}
use borrow.Author.Rules.{rules}
use Rattle.std.specs.List.{count_by}
use Rattle.std.proofs.iter.runs.Made.{chains}
use Rattle.model.specs.Records.{is_switch}
use Rattle.due.specs.Lists.{report_of}
use Rattle.due.proofs.Laws.{switch_is}
use Rattle.formed.proofs.Slices.{count_of}
use Rattle.formed.proofs.reports.but_switch.Goals as goal

pub returns : goal.returns
returns c =
    let a = c.args in
    let e : c.count.result ≡ count_by (λ r. not (is_switch (report_of r))) a.due.now = search (rules, chains, switch_is) in
    e ∙ count_of (λ d. not (is_switch d)) report_of a.due.now
