-- The length of the array of reports, from what owning it tells.
use mathlib.Core.Path.{◌≡◌}
use mathlib.Core.List.{◌∷◌, []}
use lib.ListN.{length}
use denote.Laws.{Is}
use denote.Struct.Laws.{owed, val}
use denote.Struct.Declared.{row}
use Rattle.due.specs.declared.reports.Reports.{Reports}
use Rattle.due.specs.Lists.{report_room}
use Rattle.due.specs.contracts.reports.Reports.{the_type as reports-type}
use Rattle.due.proofs.reports.Reports.TheLaws.{the_laws as reports-laws}

pub reports_size : (r : Reports) → Is (row reports-type) r (val reports-type reports-laws r ∷ []) → length r.items ≡ report_room
reports_size r g = (owed reports-type reports-laws r _ g).0.1.0.1
