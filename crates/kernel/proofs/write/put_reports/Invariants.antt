-- `put_reports` meets its contract: each turn puts the first report due at its place and gives it.
use lib.ListN.{length}
use Rattle.machine.specs.View.{view}
use Rattle.kernel.proofs.Putting.{Putting}
use Rattle.kernel.proofs.write.put_reports.Given as goal

abbrev pub invariant-loop-r : goal.invariant-loop-r
invariant-loop-r l = Putting l.i l.running l.initial.s l.initial.out l.at l.to l.s l.out

abbrev pub decreases-loop-r : goal.decreases-loop-r
decreases-loop-r l = length (view l.s).due
