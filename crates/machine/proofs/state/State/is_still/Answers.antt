-- `is_still` meets its contract: what is asked is asked in turn, and the first No ends.
use Rattle.std.proofs.Common.{rules, tests}
use mathlib.Core.Path.{◌≡◌, ap, ap₂, sym, ◌∙◌}
use mathlib.Core.Bool.{true}
use Prim.Native.Nat.{◌+◌}
use native.Mathlib.Omega.{arith}
use borrow.Author.Tests.{le-leb, lt-leb, not-true, not-false}
use lib.Dec.{ltb, leb}
use Rattle.model.specs.Timers.{is_complete}
use Rattle.clock.specs.View as timing
use Rattle.clock.specs.Clauses.{soonest as soonest_expiry}
use Rattle.machine.specs.declared.state.State.{State}
use Rattle.machine.proofs.state.State.is_still.Goals as goal
use Rattle.machine.proofs.state.State.is_still.Goals.{After-all_after, After-soonest-first, After-timers-1, After-wakes-1, Else-not-all_after, Else-not-is_complete, Else-self}

abbrev asked : goal.Else-self → State
asked c = c.args.self

undue : (c : goal.Else-self) → leb (asked c).due.count (asked c).given ≡ true
undue c = le-leb (asked c).due.count (asked c).given c.if-self.false

complete : (c : goal.Else-not-is_complete) → is_complete (timing.view (asked c.before.before.before).machine.timers).arming ≡ true
complete c = sym c.is_complete.ensures ∙ not-false c.is_complete.result c.if-not-is_complete.false-raw

-- whether the timers are later, of the number as it was found
all-after-is : (c : goal.After-all_after) → (c.all_after.result ≡ ltb ((asked c.before.before.before.before).machine.tick.0 + 1) (soonest_expiry (timing.view (asked c.before.before.before.before).machine.timers).slots))
all-after-is c =
    c.all_after.ensures ∙ ap (λ n. ltb n (soonest_expiry (timing.view (asked c.before.before.before.before).machine.timers).slots)) c.next-number.ensures

pub next-number-requires : goal.next-number-requires
next-number-requires c = omega (arith, c.requires.0)

pub returns-then-self : goal.returns-then-self
returns-then-self c = let s = c.args.self in rw (lt-leb s.due.count s.given c.if-self.true)

pub is_complete-requires : goal.is_complete-requires
is_complete-requires c = tt

pub returns-then-not-is_complete : goal.returns-then-not-is_complete
returns-then-not-is_complete c = rw (undue (goal.at.returns-then-not-is_complete c).Else-self, ← c.is_complete.ensures, not-true c.is_complete.result c.if-not-is_complete.true-raw)

pub all_after-requires : goal.all_after-requires
all_after-requires c =
    omega (arith, c.next-number.ensures, c.requires.0)

pub returns-then-not-all_after : goal.returns-then-not-all_after
returns-then-not-all_after c =
    rw (undue (goal.at.returns-then-not-all_after c).Else-self, complete (goal.at.returns-then-not-all_after c).Else-not-is_complete, ← all-after-is (goal.at.returns-then-not-all_after c).After-all_after, not-true c.all_after.result c.if-not-all_after.true-raw)

pub soonest-first-requires : goal.soonest-first-requires
soonest-first-requires c = c.requires.1

pub returns : goal.returns
returns c =
    let later' = sym (all-after-is (goal.at.returns c).After-all_after) ∙ not-false c.all_after.result c.if-not-all_after.false-raw in
    let below : c.lt.result ≡ ltb c.next-number.result.0 c.soonest-first.result.0 = search (rules, tests) in
    rw (undue (goal.at.returns c).Else-self, complete (goal.at.returns c).Else-not-is_complete, later') (below ∙ ap₂ ltb c.next-number.ensures c.soonest-first.ensures)
