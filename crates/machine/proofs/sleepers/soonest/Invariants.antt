-- `soonest` meets its contract: the least of the number kept and of those that the sleepers left wait for is the least of all.
use mathlib.Core.Path.{◌≡◌}
use Prim.Native.Nat.{min, ◌≤◌}
use Rattle.model.specs.Formed.{last_wake}
use Rattle.lists.specs.Words.{nibbles}
use Rattle.lists.specs.Lists.{queued}
use Rattle.machine.specs.Clauses.{soonest}
use Rattle.machine.proofs.sleepers.soonest.Given as goal

-- no number kept is above the greatest, so that the least of it and of those left is the least of all
abbrev pub invariant-loop-t : goal.invariant-loop-t
invariant-loop-t l =
    (l.first.0 ≤ last_wake) × (min l.first.0 (soonest l.wakes (nibbles l.t-iterator.left l.t-iterator.rest)) ≡ soonest l.wakes (queued l.fn.delays))
