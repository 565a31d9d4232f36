-- `walk` meets its contract. The loop's invariant: no rule is broken yet, from the state and record reached the run goes on to where it ends, and the
-- running place is that record's.
-- Each way through the loop is one of the machine's answers.
use mathlib.Core.Path.{◌≡◌, refl, ap, subst, ◌∙◌}
use mathlib.Core.Bool.{Bool, true, false}
use Prim.Native.Nat.{ℕ, ◌≤◌, ◌<◌, max}
use lib.Dec.{leb}
use Rattle.std.proofs.lemmas.Bool.{leb-true, leb-false}
use native.Mathlib.Omega.{arith}
use Rattle.std.specs.Prelude.{Ok}
use Rattle.machine.specs.declared.reporting.Reporting.{Reporting}
use Rattle.machine.specs.View.{view}
use Rattle.machine.specs.Calls.{Answers}
use Rattle.machine.proofs.Laws.{arming_known}
use Rattle.dump.specs.Layout.{record_count}
use Rattle.dump.proofs.Laws.{running_place_lem, running_next}
use Rattle.walk.specs.Clauses.{WalkEnds}
use Rattle.walk.proofs.Walking.{Walking, as_came, as_opened, walk_begins, walk_ends, walk_within, walk_breaks, walk_moves}
use Rattle.walk.proofs.Turning as turn
use Rattle.walk.proofs.walk.walk.Goals as goal
use Rattle.walk.proofs.walk.walk.Goals.{At-loop-i, In-loop-i, After-entry_at-e, Joined-hears, then-hears, else-hears+then-e-eq7+then-is_quiet, else-hears+else-e-eq7+in-Create, else-hears+else-e-eq7+in-Delay, else-hears+else-e-eq7+in-Relinquish, else-hears+else-e-eq7+in-End, else-hears+else-e-eq7+in-Take, else-hears+else-e-eq7+in-Give, else-hears+else-e-eq7+in-Tick, else-hears+else-e-eq7+in-Arm, else-hears+else-e-eq7+in-Start, else-hears+else-e-eq7+in-Period, else-hears+else-e-eq7+in-Cancel, else-hears+else-e-eq7+in-Report}

pub loop-i-init : goal.loop-i-init
loop-i-init c =
    let a = c.args in
    let e = c.opened-c.ensures in
    (ap (λ (x : Reporting). x.rule) e, as_opened a.s e (walk_begins c.requires.0 e), c.requires.1, λ h. refl)

-- where the loop stands, as a walk from the state that came
standing : (l : goal.At-loop-i) → (let a = l.args in Walking a.s.machine.plan (view a.s) a.bytes.now a.from a.to l.loop-i.c l.loop-i.i)
standing l = as_came l.args.s l.opened-c.ensures l.loop-i.invariant.1

pub entry_at-e-requires : goal.entry_at-e-requires
entry_at-e-requires c = (c.requires.0.whole, walk_within c.requires.0 (standing (goal.at.entry_at-e-requires c).At-loop-i) c.loop-i-test.true, c.loop-i.invariant.2)

pub hears-requires : goal.hears-requires
hears-requires c = arming_known c.loop-i.c (turn.asks c.requires.0 (standing (goal.at.hears-requires c).At-loop-i) c.loop-i-test.true c.entry_at-e.ensures).formed'

pub heard-c-requires : goal.heard-c-requires
heard-c-requires c = turn.hearing c.requires.0 (standing (goal.at.heard-c-requires c).At-loop-i) c.loop-i-test.true c.entry_at-e.ensures c.hears.ensures c.if-hears.true

pub is_quiet-requires : goal.is_quiet-requires
is_quiet-requires c = (turn.ticks_by c.requires.0 (standing (goal.at.is_quiet-requires c).At-loop-i) c.loop-i-test.true c.entry_at-e.ensures c.hears.ensures c.if-hears.false c.if-e-eq7.true).asks.tick' refl

pub passed-c-requires : goal.passed-c-requires
passed-c-requires c = (turn.ticks_by c.requires.0 (standing (goal.at.passed-c-requires c).At-loop-i) c.loop-i-test.true c.entry_at-e.ensures c.hears.ensures c.if-hears.false c.if-e-eq7.true).asks.tick' refl

pub record_of-requires : goal.record_of-requires
record_of-requires c = turn.readable c.requires.0 (standing (goal.at.record_of-requires c).At-loop-i) c.loop-i-test.true c.entry_at-e.ensures

pub create-c-requires : goal.create-c-requires
create-c-requires c = turn.called c.requires.0 (standing (goal.at.create-c-requires c).At-loop-i) c.loop-i-test.true c.entry_at-e.ensures c.hears.ensures c.if-hears.false c.record_of.ensures.same c.in-Create.is refl refl

pub delay-c-requires : goal.delay-c-requires
delay-c-requires c = turn.called c.requires.0 (standing (goal.at.delay-c-requires c).At-loop-i) c.loop-i-test.true c.entry_at-e.ensures c.hears.ensures c.if-hears.false c.record_of.ensures.same c.in-Delay.is refl refl

pub relinquish-c-requires : goal.relinquish-c-requires
relinquish-c-requires c = turn.called c.requires.0 (standing (goal.at.relinquish-c-requires c).At-loop-i) c.loop-i-test.true c.entry_at-e.ensures c.hears.ensures c.if-hears.false c.record_of.ensures.same c.in-Relinquish.is refl refl

pub end-c-requires : goal.end-c-requires
end-c-requires c = turn.called c.requires.0 (standing (goal.at.end-c-requires c).At-loop-i) c.loop-i-test.true c.entry_at-e.ensures c.hears.ensures c.if-hears.false c.record_of.ensures.same c.in-End.is refl refl

pub take-c-requires : goal.take-c-requires
take-c-requires c = turn.moves c.requires.0 (standing (goal.at.take-c-requires c).At-loop-i) c.loop-i-test.true c.entry_at-e.ensures c.hears.ensures c.if-hears.false c.record_of.ensures.same c.in-Take.is refl refl

pub give-c-requires : goal.give-c-requires
give-c-requires c = turn.moves c.requires.0 (standing (goal.at.give-c-requires c).At-loop-i) c.loop-i-test.true c.entry_at-e.ensures c.hears.ensures c.if-hears.false c.record_of.ensures.same c.in-Give.is refl refl

pub tick-c-requires : goal.tick-c-requires
tick-c-requires c = turn.ticked c.requires.0 (standing (goal.at.tick-c-requires c).At-loop-i) c.loop-i-test.true c.entry_at-e.ensures c.hears.ensures c.if-hears.false c.record_of.ensures.same c.in-Tick.is refl

pub arm-c-requires : goal.arm-c-requires
arm-c-requires c = turn.called c.requires.0 (standing (goal.at.arm-c-requires c).At-loop-i) c.loop-i-test.true c.entry_at-e.ensures c.hears.ensures c.if-hears.false c.record_of.ensures.same c.in-Arm.is refl refl

pub start-c-requires : goal.start-c-requires
start-c-requires c = turn.called c.requires.0 (standing (goal.at.start-c-requires c).At-loop-i) c.loop-i-test.true c.entry_at-e.ensures c.hears.ensures c.if-hears.false c.record_of.ensures.same c.in-Start.is refl refl

pub period-c-requires : goal.period-c-requires
period-c-requires c = turn.called c.requires.0 (standing (goal.at.period-c-requires c).At-loop-i) c.loop-i-test.true c.entry_at-e.ensures c.hears.ensures c.if-hears.false c.record_of.ensures.same c.in-Period.is refl refl

pub cancel-c-requires : goal.cancel-c-requires
cancel-c-requires c = turn.called c.requires.0 (standing (goal.at.cancel-c-requires c).At-loop-i) c.loop-i-test.true c.entry_at-e.ensures c.hears.ensures c.if-hears.false c.record_of.ensures.same c.in-Cancel.is refl refl

-- what is answered of record i, on each way through the turn
answered : (c : goal.Joined-hears) (stands : Walking c.args.s.machine.plan (view c.args.s) c.args.bytes.now c.args.from c.args.to c.loop-i.c c.loop-i.i)
    → Answers c.if-hears.c c.loop-i.c (turn.at c.requires.0 stands c.loop-i-test.true c.entry_at-e.ensures)
answered c stands =
    let h = c.hears.ensures in
    elim c.if-hears.branch [
      | then-hears w ↦ turn.heard c.requires.0 stands c.loop-i-test.true c.entry_at-e.ensures h w.if-hears.true w.c-is w.heard-c.ensures
      | else-hears+then-e-eq7+then-is_quiet w ↦ turn.passes c.requires.0 stands c.loop-i-test.true c.entry_at-e.ensures h w.if-hears.false w.if-e-eq7.true c.loop-i.invariant.0 w.is_quiet.ensures w.if-is_quiet.true (w.c-is ∙ w.passed-c.ensures)
      | else-hears+else-e-eq7+in-Create w ↦ turn.made c.requires.0 stands c.loop-i-test.true c.entry_at-e.ensures h w.if-hears.false w.record_of.ensures.same w.in-Create.is refl w.c-is w.create-c.ensures
      | else-hears+else-e-eq7+in-Delay w ↦ turn.made c.requires.0 stands c.loop-i-test.true c.entry_at-e.ensures h w.if-hears.false w.record_of.ensures.same w.in-Delay.is refl w.c-is w.delay-c.ensures
      | else-hears+else-e-eq7+in-Relinquish w ↦ turn.made c.requires.0 stands c.loop-i-test.true c.entry_at-e.ensures h w.if-hears.false w.record_of.ensures.same w.in-Relinquish.is refl w.c-is w.relinquish-c.ensures
      | else-hears+else-e-eq7+in-End w ↦ turn.made c.requires.0 stands c.loop-i-test.true c.entry_at-e.ensures h w.if-hears.false w.record_of.ensures.same w.in-End.is refl w.c-is w.end-c.ensures
      | else-hears+else-e-eq7+in-Take w ↦ turn.made c.requires.0 stands c.loop-i-test.true c.entry_at-e.ensures h w.if-hears.false w.record_of.ensures.same w.in-Take.is refl w.c-is w.take-c.ensures
      | else-hears+else-e-eq7+in-Give w ↦ turn.made c.requires.0 stands c.loop-i-test.true c.entry_at-e.ensures h w.if-hears.false w.record_of.ensures.same w.in-Give.is refl w.c-is w.give-c.ensures
      | else-hears+else-e-eq7+in-Tick w ↦ turn.made c.requires.0 stands c.loop-i-test.true c.entry_at-e.ensures h w.if-hears.false w.record_of.ensures.same w.in-Tick.is refl w.c-is w.tick-c.ensures
      | else-hears+else-e-eq7+in-Arm w ↦ turn.made c.requires.0 stands c.loop-i-test.true c.entry_at-e.ensures h w.if-hears.false w.record_of.ensures.same w.in-Arm.is refl w.c-is w.arm-c.ensures
      | else-hears+else-e-eq7+in-Start w ↦ turn.made c.requires.0 stands c.loop-i-test.true c.entry_at-e.ensures h w.if-hears.false w.record_of.ensures.same w.in-Start.is refl w.c-is w.start-c.ensures
      | else-hears+else-e-eq7+in-Period w ↦ turn.made c.requires.0 stands c.loop-i-test.true c.entry_at-e.ensures h w.if-hears.false w.record_of.ensures.same w.in-Period.is refl w.c-is w.period-c.ensures
      | else-hears+else-e-eq7+in-Cancel w ↦ turn.made c.requires.0 stands c.loop-i-test.true c.entry_at-e.ensures h w.if-hears.false w.record_of.ensures.same w.in-Cancel.is refl w.c-is w.cancel-c.ensures
      | else-hears+else-e-eq7+in-Report w ↦ turn.barred c.requires.0 stands c.loop-i-test.true c.entry_at-e.ensures h w.if-hears.false w.record_of.ensures.same w.in-Report.is w.c-is w.unasked-c.ensures
    ]

-- the running place is within the bytes, by its law
pub overflow_add-running : goal.overflow_add-running
overflow_add-running c =
    record {
      fits = omega (
        arith,
        c.loop-i.invariant.2,
        running_place_lem (record_count c.args.bytes.now) c.loop-i.i,
        walk_within c.requires.0 (standing (goal.at.overflow_add-running c).At-loop-i) c.loop-i-test.true,
        c.requires.0.whole.count,
      );
    }

pub loop-i-preserved : goal.loop-i-preserved
loop-i-preserved c =
    let stands = standing (goal.at.loop-i-preserved c).At-loop-i in (
      c.if-c-ne0.false,
      as_opened c.args.s c.opened-c.ensures (walk_moves c.requires.0 stands c.loop-i-test.true (answered (goal.at.loop-i-preserved c).Joined-hears stands) c.if-c-ne0.false),
      running_next (record_count c.args.bytes.now) c.loop-i.i c.loop-i.invariant.2,
      λ h. omega arith,
    )

pub closed-requires : goal.closed-requires
closed-requires c = let stands = standing (goal.at.closed-requires c).At-loop-i in (answered (goal.at.closed-requires c).Joined-hears stands).stands'.apart'

pub closed-requires-2 : goal.closed-requires-2
closed-requires-2 c = (standing (goal.at.closed-requires-2 c).At-loop-i).stands.apart'

pub returns-then-c-ne0 : goal.returns-then-c-ne0
returns-then-c-ne0 c =
    let stands = standing (goal.at.returns-then-c-ne0 c).At-loop-i in
    rw c.answer.ensures (walk_breaks c.requires.0 stands c.loop-i-test.true (answered (goal.at.returns-then-c-ne0 c).Joined-hears stands) c.if-c-ne0.true c.closed.ensures)

-- where no record breaks a rule, the walk ends behind the last one, or where it began if there is none
at_end : (from to i m : ℕ) → from ≤ i → (from ≤ to → i ≤ to) → to ≤ i → (to ≤ from → i ≡ from) → m ≡ max to from → i ≡ m
at_end from to i m b h e n k = go (leb from to) refl
  where
    go : (t : Bool) → leb from to ≡ t → i ≡ m
    go true p = let r : i ≤ to = h (leb-true from to p) in omega arith
    go false p = let w : to < from = leb-false from to p in let r : i ≡ from = n (omega arith) in omega arith

pub returns : goal.returns
returns c =
    let a = c.args in
    let reached : c.loop-i.i ≡ c.max.result = at_end c.args.from c.args.to c.loop-i.i _ c.loop-i.auto.i c.loop-i.auto.i-end c.loop-i-test.false c.loop-i.invariant.3 c.max.ensures in
    subst (λ n. WalkEnds (record { state = c.closed-2.result; at = n; rule = Ok tt }) a.s a.bytes.now a.from a.to) reached
    (walk_ends c.requires.0 (standing (goal.at.returns c).At-loop-i) c.loop-i-test.false c.closed-2.ensures)
