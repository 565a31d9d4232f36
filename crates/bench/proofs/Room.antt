-- Question 11 is never what refuses an input of the program: a dump of 20,000 records fits its output of 65,536 bytes.
use mathlib.Core.Path.{◌≡◌}
use mathlib.Core.List.{List}
use Prim.Native.Nat.{ℕ}
use native.Mathlib.Omega.{arith}
use Rattle.kernel.specs.Answers.{refused}
use Rattle.kernel.proofs.Laws.{enough_space}
use Rattle.streams.specs.Input.{plan_in, behind_plan}
use Rattle.bench.specs.Printed.{answered}

pub never_too_short : (input : List ℕ) → answered input 65536 ≡ refused 11 → ⊥
never_too_short input e = enough_space 65536 (omega arith) (plan_in input) (behind_plan input) e
