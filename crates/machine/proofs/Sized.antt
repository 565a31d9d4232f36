-- The lengths of the arrays of the declared structs, from what owning one tells.
use mathlib.Core.Path.{◌≡◌}
use mathlib.Core.List.{◌∷◌, []}
use lib.ListN.{length}
use denote.Laws.{Is}
use denote.Struct.Laws.{owed, val}
use denote.Struct.Declared.{row}
use Rattle.machine.specs.declared.Machine.{Machine}
use Rattle.machine.specs.declared.reporting.Reporting.{Reporting}
use Rattle.machine.specs.declared.state.State.{State}
use Rattle.due.specs.Lists.{report_room}
use Rattle.due.proofs.Laws.{reports_size}
use Rattle.machine.specs.contracts.Machine.{the_type as machine-type}
use Rattle.machine.proofs.Machine.TheLaws.{the_laws as machine-laws}
use Rattle.machine.specs.contracts.reporting.Reporting.{the_type as reporting-type}
use Rattle.machine.proofs.reporting.Reporting.TheLaws.{the_laws as reporting-laws}
use Rattle.machine.specs.contracts.state.State.{the_type as state-type}
use Rattle.machine.proofs.state.State.TheLaws.{the_laws as state-laws}

pub wakes_size : (m : Machine) → Is (row machine-type) m (val machine-type machine-laws m ∷ []) → length m.wakes ≡ 16
wakes_size m g = (owed machine-type machine-laws m _ g).1.1.1.0.1.0.1

pub due_size : (s : State) → Is (row state-type) s (val state-type state-laws s ∷ []) → length s.due.items ≡ report_room
due_size s g = reports_size s.due (owed state-type state-laws s _ g).1.0

pub reporting_size : (c : Reporting) → Is (row reporting-type) c (val reporting-type reporting-laws c ∷ []) → length c.reports ≡ report_room
reporting_size c g = (owed reporting-type reporting-laws c _ g).1.0.1.0.1

-- and of the machine in it
pub slept_size : (c : Reporting) → Is (row reporting-type) c (val reporting-type reporting-laws c ∷ []) → length c.machine.wakes ≡ 16
slept_size c g = wakes_size c.machine (owed reporting-type reporting-laws c _ g).0
