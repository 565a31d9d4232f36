-- `owed_none` meets its contract: those counted so far, and those left that are armed and owed none, are all.
use mathlib.Core.Path.{◌≡◌, ap, sym, ◌∙◌}
use mathlib.Core.Bool.{Bool, true, false, cond, not}
use Prim.Native.Nat.{◌+◌}
use native.Mathlib.Omega.{arith}
use Rattle.model.specs.Records.{timer_count}
use Rattle.model.specs.Formed.{times}
use Rattle.model.proofs.Loops.{begin, done}
use Rattle.formed.proofs.reports.owed_none.Invariants.{passes, from, next}
use Rattle.formed.proofs.reports.owed_none.Goals as goal
use Rattle.formed.proofs.reports.owed_none.Goals.{After-is_armed, At-loop-i, In-loop-i, else-is_armed, else-is_armed-via-else-is_armed, else-is_armed-via-then-is_armed+else-not-owes_expire, then-is_armed+then-not-owes_expire}

pub loop-i-init : goal.loop-i-init
loop-i-init c = let a = c.args in (omega arith, omega (arith, begin (times (passes a.timers a.reports a.given)) timer_count))

pub owes_expire-requires : goal.owes_expire-requires
owes_expire-requires c = λ h. c.requires

pub overflow_add-count : goal.overflow_add-count
overflow_add-count c = record { fits = omega (arith, c.loop-i-test.true, c.loop-i.invariant.0) }

pub loop-i-preserved : goal.loop-i-preserved
loop-i-preserved c =
    let a = c.args in
    let v = c.loop-i.invariant in
    let h = c.loop-i-test.true in
    let step : (b : Bool) → passes a.timers a.reports a.given c.loop-i.i ≡ b → from a.timers a.reports a.given c.loop-i.i ≡ cond b (from a.timers a.reports a.given (c.loop-i.i + 1) + 1) (from a.timers a.reports a.given (c.loop-i.i + 1)) =
    λ b q. next a.timers a.reports a.given c.loop-i.i h {b = b} q in
    elim c.if-is_armed.branch [
      | then-is_armed+then-not-owes_expire w ↦ let q = step true (rw (sym c.is_armed.ensures ∙ w.if-is_armed.true, ap not (sym w.owes_expire.ensures) ∙ w.if-not-owes_expire.true-raw)) in (omega (arith, w.count-is, v.0), omega (arith, w.count-is, v.1, q))
      | else-is_armed w ↦ let q = step false (elim w.else-is_armed.branch [ else-is_armed-via-then-is_armed+else-not-owes_expire u ↦ rw (sym c.is_armed.ensures ∙ u.if-is_armed.true, ap not (sym u.owes_expire.ensures) ∙ u.if-not-owes_expire.false-raw) | else-is_armed-via-else-is_armed u ↦ rw (sym c.is_armed.ensures ∙ u.if-is_armed.false) ]) in
          (omega (arith, w.count-is, v.0), omega (arith, w.count-is, v.1, q))
    ]

pub returns : goal.returns
returns c =
    let a = c.args in
    omega (arith, c.loop-i.invariant.1, done (times (passes a.timers a.reports a.given)) timer_count c.loop-i.i (omega (arith, c.loop-i-test.false)))
