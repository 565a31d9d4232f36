-- `find_heir` meets its contract: the heir kept so far and the waits left give the heir, and whether all holds left let it is whether all do.
use mathlib.Core.Path.{◌≡◌}
use Rattle.model.specs.Searches.{all}
use Rattle.lists.specs.Words.{nibbles, entry_of}
use Rattle.lists.specs.Lists.{held_in, held, queued}
use Rattle.lists.proofs.Heirs.{lets, HeirLeft}
use Rattle.lists.proofs.choice.find_heir.Given as goal

abbrev pub invariant-loop-h : goal.invariant-loop-h
invariant-loop-h l =
    all (lets l.ceilings l.b) (held_in l.h-iterator.left l.h-iterator.sections l.h-iterator.threads) ≡ all (lets l.ceilings l.b) (held l.holds)

abbrev pub invariant-waits : goal.invariant-waits
invariant-waits l =
    HeirLeft (entry_of l.bases) l.ceilings (held l.holds) (queued l.fn.waits) l.who l.free l.top (nibbles l.t-iterator.left l.t-iterator.rest)
