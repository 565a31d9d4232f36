-- `Reports::owes_expire` meets its contract: an Expire of the timer is among those due.
use mathlib.Core.Path.{ap, ◌∙◌}
use Rattle.model.specs.Searches.{any}
use Rattle.model.specs.Records.{is_expire}
use Rattle.due.proofs.ReportKinds.{expires_of}
use Rattle.due.proofs.reports.Reports.owes_expire.Goals as goal

pub returns : goal.returns
returns c = c.among.ensures ∙ expires_of c.args.timer c.due.result.now ∙ ap (any (is_expire c.args.timer)) c.due.ensures
