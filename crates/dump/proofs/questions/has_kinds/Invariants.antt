-- `has_kinds` meets its contract: a loop that asks whether all pass.
use mathlib.Core.Bool.{Bool}
use mathlib.Core.List.{List}
use Prim.Native.Nat.{ℕ}
use Rattle.dump.specs.Layout.{record_count, kind_at}
use Rattle.dump.specs.Questions.{kind_allowed}
use Rattle.dump.proofs.Asking.{Asking}
use Rattle.dump.proofs.questions.has_kinds.Given as goal

-- what is asked of record i
abbrev pub asked : Bool → List ℕ → ℕ → Bool
asked calls_only bytes i = kind_allowed calls_only (kind_at bytes i)

abbrev pub invariant-loop-i : goal.invariant-loop-i
invariant-loop-i l = Asking (asked l.list l.bytes) (record_count l.bytes) l.i
