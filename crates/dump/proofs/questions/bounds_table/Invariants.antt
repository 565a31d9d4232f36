-- `bounds_table` meets its contract: a loop that stores the bounds of one kind in each turn.
use mathlib.Core.Path.{◌≡◌}
use Prim.Native.Nat.{◌≤◌}
use lib.ListN.{length}
use Rattle.dump.specs.Operands.{Tabled}
use Rattle.dump.proofs.questions.bounds_table.Given as goal

abbrev pub invariant-loop-k : goal.invariant-loop-k
invariant-loop-k l = (l.k ≤ 32) × (length l.table ≡ 32) × Tabled l.threads l.sections l.list l.k l.table
