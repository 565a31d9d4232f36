-- The code's records as the model's.
use Rattle.std.specs.Prelude.{◌≡◌, ◌⊎◌, ℕ}
use Rattle.model.specs.Records as records
use Rattle.machine.specs.declared.record.Record.{Record}
use Rattle.machine.specs.declared.record.Record.TheVariants.{Create, Delay, Relinquish, End, Take, Give, Tick, Arm, Start, Period, Cancel, Report}
use Rattle.due.specs.Lists.{report_of, IsReport}

abbrev pub record_of : Record → records.Record
record_of (Create t) = records.call (records.Create t)
record_of (Delay w) = records.call (records.Delay w.0)
record_of Relinquish = records.call records.Relinquish
record_of End = records.call records.End
record_of (Take s) = records.call (records.Take s)
record_of (Give s) = records.call (records.Give s)
record_of Tick = records.call records.Tick
record_of (Arm i) = records.call (records.Timing (records.Arm i))
record_of (Start n) = records.call (records.Timing (records.Start n))
record_of (Period n) = records.call (records.Timing (records.Period n))
record_of (Cancel i) = records.call (records.Timing (records.Cancel i))
record_of (Report r) = records.report (report_of r)

-- question 7, of a record that is a report
abbrev pub KindAllowed : Record → Type 0
KindAllowed (Create t) = Unit {0}
KindAllowed (Delay w) = Unit {0}
KindAllowed Relinquish = Unit {0}
KindAllowed End = Unit {0}
KindAllowed (Take s) = Unit {0}
KindAllowed (Give s) = Unit {0}
KindAllowed Tick = Unit {0}
KindAllowed (Arm i) = Unit {0}
KindAllowed (Start n) = Unit {0}
KindAllowed (Period n) = Unit {0}
KindAllowed (Cancel i) = Unit {0}
KindAllowed (Report r) = IsReport r

-- a record by its kind and operand
abbrev pub Named : (kind operand : ℕ) → records.Record → Type 0
Named kind n r =
    ((k : records.Call) × (r ≡ records.call k) × (records.call_kind k ≡ kind)) ⊎ (IsReport (record { kind = kind; spare = 0; operand = n }) × (r ≡ records.report (report_of (record { kind = kind; spare = 0; operand = n }))))
