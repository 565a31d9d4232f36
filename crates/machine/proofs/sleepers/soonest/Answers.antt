-- `soonest` meets its contract: the least of the number kept and of those that the sleepers left wait for is the least of all.
use mathlib.Core.Path.{◌≡◌, ap}
use mathlib.Core.List.{List, [], ◌∷◌}
use Prim.Native.Nat.{ℕ, ◌≤◌}
use native.Mathlib.Omega.{arith}
use Rattle.model.specs.Formed.{last_wake}
use Rattle.lists.specs.Words.{nibbles}
use Rattle.lists.specs.Lists.{queued}
use Rattle.clock.specs.declared.time.Tick.{Tick}
use Rattle.machine.specs.Clauses.{soonest}
use Rattle.machine.proofs.sleepers.soonest.Goals as goal

at-most-last : (wakes : List Tick) (l : List ℕ) → soonest wakes l ≤ last_wake
at-most-last wakes [] = omega arith
at-most-last wakes (t ∷ l) = omega (arith, at-most-last wakes l)

pub loop-t-init : goal.loop-t-init
loop-t-init c =
    let a = c.args in
    let i = c.into_iter-t-iterator in
    let all : nibbles i.result.left i.result.rest ≡ queued a.delays = rw i.ensures.into_iter_gives c.iter-t-items.ensures in
    (omega arith, omega (arith, ap (soonest a.wakes) all, at-most-last a.wakes (queued a.delays)))
