-- `has_records` meets its contract: a loop that asks whether all pass. The table's entry of a kind admits just the operands that pass with it, and the
-- running place is that of the record whose turn it is.
use mathlib.Core.Path.{◌≡◌}
use mathlib.Core.Bool.{Bool}
use mathlib.Core.List.{List}
use Prim.Native.Nat.{ℕ}
use Rattle.dump.specs.Layout.{record_count, kind_at, operand_at, running_place}
use Rattle.dump.specs.Operands.{record_fits}
use Rattle.dump.proofs.Asking.{Asking}
use Rattle.dump.proofs.questions.has_records.Given as goal

-- what is asked of record i
abbrev pub asked : (threads sections : ℕ) → Bool → List ℕ → ℕ → Bool
asked threads sections calls_only bytes i = record_fits threads sections calls_only (kind_at bytes i) (operand_at bytes i)

abbrev pub invariant-loop-i : goal.invariant-loop-i
invariant-loop-i l = Asking (asked l.threads l.sections l.list l.bytes) (record_count l.bytes) l.i × (l.running ≡ running_place (record_count l.bytes) l.i)
