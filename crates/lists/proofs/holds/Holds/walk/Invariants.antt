-- `Holds::walk` meets its contract: the owner among the holds passed, put before those that are left, gives the owner of all.
use Rattle.lists.specs.Lists.{held_in, held, ceiling_in}
use Rattle.lists.proofs.Holdings.{TopLeft}
use Rattle.lists.proofs.holds.Holds.walk.Given as goal

abbrev pub invariant-loop-h : goal.invariant-loop-h
invariant-loop-h l =
    TopLeft (ceiling_in l.ceilings) (held l.fn.self) (held_in l.h-iterator.left l.h-iterator.sections l.h-iterator.threads) l.top.owner l.top.ceiling
