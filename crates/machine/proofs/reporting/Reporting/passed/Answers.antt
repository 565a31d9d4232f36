-- `passed` meets its contract: the tick number grows by one, and nothing else changes.
use native.Mathlib.Omega.{arith}
use Rattle.machine.proofs.reporting.Reporting.passed.Goals as goal

pub next-number-requires : goal.next-number-requires
next-number-requires c = omega (arith, c.requires)

pub returns : goal.returns
returns c = rw c.next-number.ensures
