-- `settled` meets its contract: each turn gives the first report due.
use lib.ListN.{length}
use Rattle.machine.specs.View.{view}
use Rattle.kernel.proofs.Giving.{Giving}
use Rattle.kernel.proofs.tally.settled.Given as goal

abbrev pub invariant-loop-r : goal.invariant-loop-r
invariant-loop-r l = Giving l.initial.s l.s

abbrev pub decreases-loop-r : goal.decreases-loop-r
decreases-loop-r l = length (view l.s).due
