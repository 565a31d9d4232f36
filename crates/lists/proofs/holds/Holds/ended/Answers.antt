-- `Holds::ended` meets its contract: the latest hold, if it is the one, goes, and otherwise all others are kept.
use mathlib.Core.Path.{sym, ◌∙◌}
use mathlib.Core.Bool.{not}
use mathlib.Core.List.{◌∷◌}
use Prim.Native.Nat.{◌-◌, ◌/◌, ◌≤◌}
use native.Mathlib.Omega.{arith}
use borrow.Author.Tests.{eq-eqb}
use Rattle.model.specs.Searches.{filter}
use Rattle.model.specs.State.{is_hold}
use Rattle.model.specs.Formed.{times}
use Rattle.lists.specs.Lists.{held_in}
use Rattle.lists.proofs.Holdings.{first_hold, turn, only_first}
use Rattle.lists.proofs.holds.Holds.ended.Goals as goal
use Rattle.lists.proofs.holds.Holds.ended.Goals.{Start, Then-self-gt0, Then-t-thread}

pub returns-then-t-thread : goal.returns-then-t-thread
returns-then-t-thread c =
    let a = c.args in
    let hs = a.self in
    let rest = held_in (hs.count - 1) (hs.sections / 16) (hs.threads / 16) in
    let p = is_hold a.section a.thread in
    let whole = turn (filter (λ h. not (p h))) hs.count hs.sections hs.threads (omega (arith, c.if-self-gt0.true)) in
    let few : times p (first_hold hs.sections hs.threads ∷ rest) ≤ 1 = omega (arith, c.requires.1, turn (times p) hs.count hs.sections hs.threads (omega (arith, c.if-self-gt0.true))) in
    sym (whole ∙ only_first p (first_hold hs.sections hs.threads) rest (rw (eq-eqb _ _ c.if-s-section.true) c.if-t-thread.true-raw) few)
