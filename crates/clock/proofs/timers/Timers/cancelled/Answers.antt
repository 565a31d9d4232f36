-- `Timers::cancelled` meets its contract: an expiry of 0 stored makes the slot none.
use mathlib.Core.Path.{refl, ap, sym, ◌∙◌}
use mathlib.Core.Bool.{cond}
use mathlib.Core.List.{List}
use mathlib.Core.Option.{Option, none}
use native.Mathlib.Omega.{arith}
use Rattle.model.specs.Timers.{Timer, set_slot}
use Rattle.clock.specs.declared.time.Tick.{Tick}
use Rattle.clock.specs.View.{view}
use Rattle.clock.proofs.Sized.{expiries_size}
use Rattle.clock.proofs.Slots.{slots_set}
use Rattle.clock.proofs.timers.Timers.cancelled.Goals as goal
use Rattle.clock.proofs.timers.Timers.cancelled.Goals.{Start, else-admitted, then-admitted}

pub returns : goal.returns
returns c =
    let a = c.args in
    let t = a.self in
    let to = set_slot a.timer none (view t) in
    elim c.if-admitted.branch [
      | then-admitted w ↦ ap (λ (x : List Tick). view (record { expiries = x; periods = t.periods; arming = t.arming })) w.expiries-is
          ∙ ap (λ (l : List (Option Timer)). record { slots = l; arming = (view t).arming })
          (slots_set t a.timer (record { 0 = 0 }) t.periods (omega (arith, c.requires, expiries_size t c.well_formed.0)) (λ i d. refl))
          ∙ sym (ap (λ b. cond b to (view t)) w.if-admitted.true)
      | else-admitted w ↦ ap (λ (x : List Tick). view (record { expiries = x; periods = t.periods; arming = t.arming })) w.expiries-is ∙ sym (ap (λ b. cond b to (view t)) w.if-admitted.false)
    ]
