-- `Holds::others` meets its contract: the holds kept, and behind them those left that pass the test, are all that pass it.
use mathlib.Core.Path.{◌≡◌}
use mathlib.Core.Bool.{not}
use mathlib.Core.List.{◌++◌}
use Rattle.model.specs.Searches.{filter}
use Rattle.model.specs.State.{is_hold}
use Rattle.lists.specs.Lists.{held_in, held}
use Rattle.lists.proofs.holds.Holds.others.Given as goal

abbrev pub invariant-loop-h : goal.invariant-loop-h
invariant-loop-h l =
    let stays = λ (h : _). not (is_hold l.fn.section l.fn.thread h) in
    held l.kept ++ filter stays (held_in l.h-iterator.left l.h-iterator.sections l.h-iterator.threads) ≡ filter stays (held l.fn.self)
