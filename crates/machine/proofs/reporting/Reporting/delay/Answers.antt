-- `delay` meets its contract: the caller sleeps until the wait is over, last in the order of Delays, and is not in the queue.
use mathlib.Core.Path.{◌≡◌, refl, ap, sym, ◌∙◌}
use mathlib.Core.List.{[]}
use Prim.Native.Nat.{ℕ, ◌+◌, ◌<◌}
use native.Mathlib.Omega.{arith}
use lib.ListN.{set}
use Rattle.model.specs.Records as records
use Rattle.model.specs.State.{asleep}
use Rattle.model.specs.Calls.{delay}
use Rattle.machine.specs.declared.Machine.{Machine}
use Rattle.machine.specs.declared.slots.Slots.{Slots}
use Rattle.due.specs.declared.reports.Reports.{Reports}
use Rattle.machine.specs.View.{conditions_of}
use Rattle.machine.specs.Rules.{free_rule}
use Rattle.due.specs.Lists.{owed}
use Rattle.machine.proofs.Answered.{zero_of}
use Rattle.machine.proofs.Admitted.{Asked, Runs, Makes, admits, refuses, by}
use Rattle.machine.proofs.Asking.{delay_rule, delays}
use Rattle.machine.proofs.Facts.{facts}
use Rattle.machine.proofs.Sized.{slept_size}
use Rattle.machine.proofs.Room.{queue_once_lem, caller_fits, delays_room}
use Rattle.machine.proofs.Chosen.{listed}
use Rattle.machine.proofs.Views.{sleeps_seen}
use Rattle.machine.proofs.Meets.{alike, array_of, stores_own}
use Rattle.machine.proofs.Quieted.{unknown_quiet}
use Rattle.machine.proofs.Outcomes.{caller_asked, short_wait, call_settles, call_answers}
use Rattle.machine.proofs.reporting.Reporting.delay.Goals as goal
use Rattle.machine.proofs.reporting.Reporting.delay.Goals.{After-next-until, After-placed-arg-1, After-plus-arg-1, After-plus-over, Joined-is_ok, Then-is_ok, else-is_ok, then-is_ok}

-- where the rule's answer is 0, the caller is the chosen thread
admitted : {m : Machine} {x rule : ℕ} → Asked m x 0 → (n : ℕ) → rule ≡ free_rule m.holds x → rule ≡ 0 → Runs m x
admitted a n e z = delays a n (sym (delay_rule a n) ∙ sym e ∙ z)

pub free_rule-rule-requires : goal.free_rule-rule-requires
free_rule-rule-requires c = (listed (facts (caller_asked c.requires).formed)).counts.holds'

pub plus-over-requires : goal.plus-over-requires
plus-over-requires c = let a = c.requires in omega (arith, (facts (caller_asked a).formed).tick, short_wait a)

pub next-until-requires : goal.next-until-requires
next-until-requires c = let a = c.requires in omega (arith, c.plus-over.ensures, (facts (caller_asked a).formed).tick, short_wait a)

-- where no rule is broken the caller is a thread
fits : (c : goal.Then-is_ok) → c.args.self.machine.reported < 16
fits c =
    caller_fits (admitted (caller_asked c.requires) c.args.wait.0 c.free_rule-rule.ensures (zero_of c.free_rule-rule.result (sym c.is_ok.ensures.value ∙ c.if-is_ok.true)))

pub placed-slots-requires : goal.placed-slots-requires
placed-slots-requires c = fits (goal.at.placed-slots-requires c).Then-is_ok

pub overflow_cast-wakes : goal.overflow_cast-wakes
overflow_cast-wakes c = omega (arith, fits (goal.at.overflow_cast-wakes c).Then-is_ok)

pub offset_bounds-wakes-caller : goal.offset_bounds-wakes-caller
offset_bounds-wakes-caller c = record { fits = omega (arith, fits (goal.at.offset_bounds-wakes-caller c).Then-is_ok) }

pub bounds-wakes-caller : goal.bounds-wakes-caller
bounds-wakes-caller c = fits (goal.at.bounds-wakes-caller c).Then-is_ok

pub without-queue-requires : goal.without-queue-requires
without-queue-requires c =
    queue_once_lem (facts (caller_asked c.requires).formed) c.args.self.machine.reported

pub push-delays-requires : goal.push-delays-requires
push-delays-requires c =
    let r = admitted (caller_asked c.requires) c.args.wait.0 c.free_rule-rule.ensures (zero_of c.free_rule-rule.result (sym c.is_ok.ensures.value ∙ c.if-is_ok.true)) in
    (delays_room r, caller_fits r)

-- what is left before the Switch: the caller may sleep, or a rule is broken. Last in each way stands the machine.
made : (c : goal.Joined-is_ok) {rs : Reports} → owed rs ≡ [] → Makes c.if-is_ok.m rs c.free_rule-rule.result c.args.self.machine (records.Delay c.args.wait.0)
unfolding delay
made c none' =
    let m = c.args.self.machine in
    let x = c.args.self.machine.reported in
    let n = c.args.wait.0 in
    let a = caller_asked c.requires in
    let e = c.free_rule-rule.ensures ∙ delay_rule a n in
    elim c.if-is_ok.branch [
      | then-is_ok w ↦ let r = admitted a n c.free_rule-rule.ensures (zero_of c.free_rule-rule.result (sym c.is_ok.ensures.value ∙ w.if-is_ok.true)) in
          admits e (by r (λ y. delay y n)) (sym c.is_ok.ensures.value ∙ w.if-is_ok.true) w.m-is refl
          (record {
            plan' = refl;
            keeps = c.requires.asks.stands.keeps;
            seen =
                alike refl
                (ap (λ (k : Slots). conditions_of m.plan.threads k (set m.wakes x w.next-until.result)) w.placed-slots.ensures
                ∙ sleeps_seen m.plan.threads m.slots m.wakes x w.next-until.result (omega (arith, caller_fits r, slept_size c.args.self c.well_formed.0))
                ∙ ap (λ u. set (conditions_of m.plan.threads m.slots m.wakes) x (asleep u)) (w.next-until.ensures ∙ ap (λ u. u + 1) w.plus-over.ensures))
                w.without-queue.ensures
                refl refl
                w.push-delays.ensures
                refl
                none'
                refl;
          })
      | else-is_ok w ↦ refuses e c.requires.asks.stands.keeps (sym c.is_ok.ensures.value ∙ w.if-is_ok.false) w.m-is refl none'
    ]

pub none-requires : goal.none-requires
none-requires c = tt

pub settled-requires : goal.settled-requires
settled-requires c =
    let s = call_settles c.requires (made (goal.at.settled-requires c).Joined-is_ok {rs = array_of c.none.result} ((stores_own c.none.result).stored [] c.none.ensures)) in (s.chooses, s.room)

pub returns : goal.returns
returns c =
    let j = (goal.at.returns c).Joined-is_ok in
    rw c.settled.ensures.owed (record { answers = call_answers c.requires (made j (c.settled.ensures.stored.stored [] c.none.ensures)) refl (unknown_quiet j.if-is_ok.m); quiet' = refl })
