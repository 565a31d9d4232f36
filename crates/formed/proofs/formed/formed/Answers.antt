-- `formed` meets its contract: what is kept is asked first where nothing is held, then the machine, then what is kept where something is; with nothing due
-- the thread reported decides, and else the reports do.
use mathlib.Core.Path.{◌≡◌}
use mathlib.Core.Bool.{true}
use native.Mathlib.Omega.{arith}
use Rattle.model.proofs.Tests.{from_true}
use Rattle.plan.proofs.Laws.{valid_fits}
use Rattle.machine.specs.View.{plan_of}
use Rattle.machine.specs.Kept.{kept}
use Rattle.machine.proofs.Laws.{machine_facts, delays_within}
use Rattle.formed.proofs.Outside.{was_no, was_yes}
use Rattle.formed.proofs.Keeping.{empty_fits_lem, empty_unfit}
use Rattle.formed.proofs.Reported.{not_formed, not_kept, at_rest, with_due}
use Rattle.formed.proofs.formed.formed.Goals as goal
use Rattle.formed.proofs.formed.formed.Goals.{Else-not-empty_fits, Else-not-machine_formed, Joined-else-m-gt0, Start, Then-state, else-m-gt0-via-else-m-gt0, else-m-gt0-via-then-m-gt0+else-not-keeps}

pub returns-then-not-empty_fits : goal.returns-then-not-empty_fits
returns-then-not-empty_fits c =
    let s = c.args.state in
    not_kept s (empty_unfit (plan_of s.machine) s.machine.holds (was_no c.empty_fits.ensures c.if-not-empty_fits.true-raw))

pub returns-then-not-machine_formed : goal.returns-then-not-machine_formed
returns-then-not-machine_formed c = not_formed c.args.state (was_no c.machine_formed.ensures c.if-not-machine_formed.true-raw)

abbrev begun : goal.Else-not-machine_formed → goal.Start
begun e = e.before.before.before.before.before.before

pub keeps-requires : goal.keeps-requires
keeps-requires c = from_true _ (was_yes c.machine_formed.ensures c.if-not-machine_formed.false-raw)

pub returns-then-not-keeps : goal.returns-then-not-keeps
returns-then-not-keeps c = not_kept (begun (goal.at.returns-then-not-keeps c).Else-not-machine_formed).args.state (was_no c.keeps.ensures c.if-not-keeps.true-raw)

agrees : (j : goal.Joined-else-m-gt0) → kept (begun j.before.before).args.state.machine ≡ true
agrees j =
    let m = (begun j.before.before).args.state.machine in
    elim j.else-m-gt0.branch [ else-m-gt0-via-then-m-gt0+else-not-keeps w ↦ was_yes w.keeps.ensures w.if-not-keeps.false-raw | else-m-gt0-via-else-m-gt0 w ↦ empty_fits_lem (plan_of m) m.holds (omega (arith, w.if-m-gt0.false)) (was_yes j.empty_fits.ensures j.if-not-empty_fits.false-raw) ]

pub shown-requires : goal.shown-requires
shown-requires c = (from_true _ (was_yes c.machine_formed.ensures c.if-not-machine_formed.false-raw), from_true _ (agrees (goal.at.shown-requires c).Joined-else-m-gt0))

pub returns-then-state : goal.returns-then-state
returns-then-state c =
    at_rest (begun (goal.at.returns-then-state c).Else-not-machine_formed).args.state (was_yes c.machine_formed.ensures c.if-not-machine_formed.false-raw) (agrees (goal.at.returns-then-state c).Joined-else-m-gt0) c.if-state.true c.shown.ensures

pub formed-requires : goal.formed-requires
formed-requires c =
    let m = (begun (goal.at.formed-requires c).Else-not-machine_formed).args.state.machine in
    let f = from_true _ (was_yes c.machine_formed.ensures c.if-not-machine_formed.false-raw) in
    (valid_fits m.plan (machine_facts m f).valid, delays_within m f, c.if-state.false)

pub returns : goal.returns
returns c =
    with_due (begun (goal.at.returns c).Else-not-machine_formed).args.state (was_yes c.machine_formed.ensures c.if-not-machine_formed.false-raw) (agrees (goal.at.returns c).Joined-else-m-gt0) c.formed.ensures
