-- `Holds::walk` meets its contract: the owner among the holds passed, put before those that are left, gives the owner of all.
use mathlib.Core.Logic.{inl, inr}
use native.Mathlib.Omega.{arith}
use Rattle.lists.specs.Lists.{hold_of, held_in, held, ceiling_in}
use Rattle.lists.proofs.Holdings.{hold_small, top_new, top_stays, top_found}
use Rattle.lists.proofs.holds.Holds.walk.Goals as goal
use Rattle.lists.proofs.holds.Holds.walk.Goals.{then-top-via-else-top+then-top-c, then-top-via-then-top}

pub loop-h-preserved-in-loop-h : goal.loop-h-preserved-in-loop-h
loop-h-preserved-in-loop-h c =
    let a = c.args in
    let l = c.loop-h in
    let n = c.next.new.self in
    top_new (ceiling_in a.ceilings.now) (held a.self) (hold_of c.in-Some.h) (held_in n.left n.sections n.threads) l.top.owner l.top.ceiling
    (omega (arith, (hold_small _ _ _ c.in-Some.ensures.steps).1)) (rw c.in-Some.ensures.steps at l.invariant)
    (elim c.then-top.branch [ then-top-via-then-top w ↦ inl w.if-top.true | then-top-via-else-top+then-top-c w ↦ inr w.if-top-c.true ])

pub loop-h-preserved : goal.loop-h-preserved
loop-h-preserved c =
    let a = c.args in
    let l = c.loop-h in
    let n = c.next.new.self in
    top_stays (ceiling_in a.ceilings.now) (held a.self) (hold_of c.in-Some.h) (held_in n.left n.sections n.threads) l.top.owner l.top.ceiling
    (rw c.in-Some.ensures.steps at l.invariant) c.if-top.false c.if-top-c.false

pub returns : goal.returns
returns c =
    let a = c.args in
    let l = c.loop-h in
    top_found (ceiling_in a.ceilings.now) (held a.self) l.top.owner l.top.ceiling (rw c.in-None.ensures.steps.0 at l.invariant)
