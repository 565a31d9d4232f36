-- `Queue::others` meets its contract: those kept so far, and those left that stay, are all that stay.
use mathlib.Core.Path.{◌≡◌}
use mathlib.Core.List.{◌++◌}
use Rattle.model.specs.Searches.{without}
use Rattle.lists.specs.Words.{nibbles}
use Rattle.lists.specs.Lists.{queued}
use Rattle.lists.proofs.queue.Queue.others.Given as goal

abbrev pub invariant-loop-t : goal.invariant-loop-t
invariant-loop-t l =
    queued l.kept ++ without l.thread (nibbles l.t-iterator.left l.t-iterator.rest) ≡ without l.thread (queued l.fn.self)
