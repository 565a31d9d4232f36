-- `ticked` meets its contract: the tick number grows by one, and nothing else changes.
use native.Mathlib.Omega.{arith}
use Rattle.live.proofs.live.ticked.Goals as goal

pub next-number-requires : goal.next-number-requires
next-number-requires c = omega (arith, c.requires)

pub returns : goal.returns
returns c = rw (c.next-number.ensures, c.due_count.ensures)
