-- `Timers::moved_on` meets its contract: after i turns the timers before i have moved on, and the others are as they were.
use mathlib.Core.Path.{ap, sym, subst, ◌∙◌}
use mathlib.Core.List.{List}
use mathlib.Core.Option.{Option}
use Prim.Native.Nat.{◌+◌, ◌<◌}
use native.Mathlib.Omega.{arith}
use borrow.Author.Tests.{eqb-true, eqb-false}
use Rattle.model.specs.Timers.{Timer}
use Rattle.clock.specs.declared.time.Tick.{Tick}
use Rattle.clock.specs.View.{number_at, slot_of, view}
use Rattle.clock.proofs.Sized.{expiries_size}
use Rattle.clock.proofs.Slots.{stored_slot}
use Rattle.clock.proofs.timers.Timers.moved_on.Invariants.{period, MovedTo, none-moved, all_moved, moves-on, stays_on}
use Rattle.clock.proofs.timers.Timers.moved_on.Goals as goal
use Rattle.clock.proofs.timers.Timers.moved_on.Goals.{else-eq, then-eq}

pub loop-i-init : goal.loop-i-init
loop-i-init c = none-moved c.args.self c.args.number.0

pub loop-i-preserved : goal.loop-i-preserved
loop-i-preserved c =
    let t = c.args.self in
    let n = c.args.number.0 in
    let i = c.loop-i.i in
    let l = c.loop-i.expiries in
    let q = c.loop-i.invariant in
    let h : i < 8 = c.loop-i-test.true in
    elim c.if-eq.branch [
      | then-eq w ↦ subst (MovedTo t n (i + 1)) (sym w.expiries-is)
          (moves-on t n i l q w.unwrap_or.result (omega (arith, h, q.sized, expiries_size t c.well_formed.0)) c.requires.0 (sym (q.kept i (omega arith)) ∙ eqb-true (number_at l i) n (sym c.eq.ensures ∙ w.if-eq.true)) (ap (λ (e : Tick). slot_of e.0 (period t n i)) w.unwrap_or.ensures ∙ stored_slot w.again.result (period t n i) n w.again.ensures.later ∙ w.again.ensures.slot))
      | else-eq w ↦ subst (MovedTo t n (i + 1)) (sym w.expiries-is)
          (stays_on t n i l q (λ z. eqb-false (number_at l i) n (sym c.eq.ensures ∙ w.if-eq.false) (q.kept i (omega arith) ∙ z)))
    ]

pub returns : goal.returns
returns c =
    let a = c.args in
    ap (λ (l : List (Option Timer)). record { slots = l; arming = (view a.self).arming })
    (all_moved a.self a.number.0 c.loop-i.expiries (omega arith) c.loop-i.invariant)
