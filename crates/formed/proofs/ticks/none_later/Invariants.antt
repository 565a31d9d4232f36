-- `none_later` meets its contract: a loop that asks whether all pass, without an early end.
use lib.Dec.{leb}
use Rattle.model.proofs.Loops.{AllPass}
use Rattle.clock.specs.View.{number_at}
use Rattle.formed.proofs.ticks.none_later.Given as goal

abbrev pub invariant-loop-t : goal.invariant-loop-t
invariant-loop-t g l = AllPass (λ n. leb n l.greatest.0) (number_at l.ticks) g.row.N l.t l.pass
