-- What reading a record gives: the machine's record that stands for the same record of the model.
use Rattle.std.specs.Prelude.{◌≡◌, ℕ}
use Rattle.machine.specs.Records as machine
use Rattle.machine.specs.declared.record.Record.{Record}
use Rattle.dump.specs.Layout.{record_of}

pub record Reads (r : Record) (kind operand : ℕ) : Type 0 where
  pub same : machine.record_of r ≡ record_of kind operand
  pub kind' : machine.KindAllowed r
