-- `Queue::urgency` meets its contract: the greater of the top so far and the greatest of those left is the greatest of all.
use mathlib.Core.Path.{◌≡◌}
use Prim.Native.Nat.{max}
use Rattle.model.specs.Searches.{greatest}
use Rattle.lists.specs.Words.{nibbles, entry_of}
use Rattle.lists.specs.Lists.{queued}
use Rattle.lists.proofs.queue.Queue.urgency.Given as goal

abbrev pub invariant-loop-t : goal.invariant-loop-t
invariant-loop-t l =
    max l.top (greatest (entry_of l.bases) (nibbles l.t-iterator.left l.t-iterator.rest)) ≡ greatest (entry_of l.bases) (queued l.fn.self)
