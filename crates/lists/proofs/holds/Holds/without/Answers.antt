-- `Holds::without` meets its contract: what is left is walked over, and there is no more of it than before.
use mathlib.Core.Path.{ap}
use mathlib.Core.Bool.{not}
use native.Mathlib.Omega.{arith}
use lib.ListN.{length}
use Rattle.model.specs.State.{is_hold}
use Rattle.lists.specs.Lists.{held}
use Rattle.lists.proofs.Holdings.{times_bound}
use Rattle.lists.proofs.Laws.{length-held}
use Rattle.lists.proofs.holds.Holds.without.Goals as goal
use Rattle.lists.proofs.holds.Holds.without.Goals.{Start}

pub walk-top-requires : goal.walk-top-requires
walk-top-requires c =
    let a = c.args in
    omega (arith, c.requires.0, length-held c.ended-left.result, ap length c.ended-left.ensures, length-held a.self, times_bound (λ h. not (is_hold a.section a.thread h)) (held a.self))

pub returns : goal.returns
returns c = (c.ended-left.ensures, c.walk-top.ensures)
