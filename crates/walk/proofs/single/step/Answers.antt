-- `single::step` meets its contract: a walk over one record.
use native.Mathlib.Omega.{arith}
use Rattle.walk.proofs.Singles.{single_walks, single_answers}
use Rattle.walk.proofs.single.step.Goals as goal
use Rattle.walk.proofs.single.step.Goals.{Start}

pub overflow_add-i : goal.overflow_add-i
overflow_add-i c = record { fits = omega (arith, c.requires.0.within, c.requires.0.whole.count) }

pub walk-w-requires : goal.walk-w-requires
walk-w-requires c = (single_walks c.requires.0, c.requires.1)

pub returns : goal.returns
returns c = single_answers c.args.bytes.now c.args.i c.walk-w.ensures
