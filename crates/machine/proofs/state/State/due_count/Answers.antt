-- `due_count` meets its contract: those due are the reports of the array behind the ones given.
use native.Mathlib.Omega.{arith}
use lib.ListN.{length-drop}
use Rattle.due.specs.Lists.{owed}
use Rattle.due.proofs.Laws.{length-owed}
use Rattle.machine.proofs.state.State.due_count.Goals as goal

pub returns : goal.returns
returns c = let s = c.args.self in omega (arith, c.saturating_sub.ensures, length-drop s.given (owed s.due), length-owed s.due)
