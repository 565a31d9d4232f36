-- `Queue::chosen` meets its contract: the one kept so far, or the first of greatest current priority among those left if that is greater, is the one chosen.
use mathlib.Core.Path.{◌≡◌}
use Rattle.model.specs.Searches.{first_greatest}
use Rattle.lists.specs.Words.{nibbles, entry_of}
use Rattle.lists.specs.Lists.{numbered, queued, current_in}
use Rattle.lists.proofs.Queues.{overtaken}
use Rattle.lists.proofs.queue.Queue.chosen.Given as goal

abbrev pub invariant-loop-t : goal.invariant-loop-t
invariant-loop-t l =
    let f = current_in (entry_of l.bases) l.owner l.urgency in
    overtaken f l.who l.top (first_greatest f (nibbles l.t-iterator.left l.t-iterator.rest)) ≡ numbered (first_greatest f (queued l.fn.self))
