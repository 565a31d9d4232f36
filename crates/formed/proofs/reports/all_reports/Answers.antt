-- `all_reports` meets its contract: what the library says of `all`, in the model's words.
use mathlib.Core.Logic.{◌↔◌}
use borrow.Author.Rules.{rules}
use Rattle.std.specs.Bool.{IsTrue}
use Rattle.std.specs.List.{AllPass}
use Rattle.std.proofs.iter.runs.Made.{chains}
use Rattle.model.specs.Records.{report, allowed}
use Rattle.plan.specs.View.{view}
use Rattle.due.specs.Lists.{report_of}
use Rattle.formed.proofs.Slices.{answers}
use Rattle.formed.proofs.reports.all_reports.Goals as goal

pub returns : goal.returns
returns c =
    let a = c.args in
    let h : IsTrue c.all.result ↔ AllPass (λ r. allowed (view a.plan) (report (report_of r))) a.due.now = search (rules, chains) in
    answers (λ d. allowed (view a.plan) (report d)) report_of a.due.now c.all.result h
