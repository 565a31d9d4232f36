-- `end` meets its contract: the caller is dormant and in no queue.
use mathlib.Core.Path.{◌≡◌, refl, ap, sym, ◌∙◌}
use mathlib.Core.List.{[]}
use Prim.Native.Nat.{ℕ}
use native.Mathlib.Omega.{arith}
use Rattle.model.specs.Records as records
use Rattle.model.specs.Calls.{end}
use Rattle.machine.specs.declared.Machine.{Machine}
use Rattle.machine.specs.declared.slots.Slots.{Slots}
use Rattle.due.specs.declared.reports.Reports.{Reports}
use Rattle.machine.specs.View.{conditions_of}
use Rattle.machine.specs.Rules.{free_rule}
use Rattle.due.specs.Lists.{owed}
use Rattle.machine.proofs.Answered.{zero_of}
use Rattle.machine.proofs.Admitted.{Asked, Runs, Makes, admits, refuses, by}
use Rattle.machine.proofs.Asking.{end_rule, ends}
use Rattle.machine.proofs.Facts.{facts}
use Rattle.machine.proofs.Room.{queue_once_lem, caller_fits}
use Rattle.machine.proofs.Chosen.{listed}
use Rattle.machine.proofs.Views.{placed_seen}
use Rattle.machine.proofs.Meets.{alike, array_of, stores_own}
use Rattle.machine.proofs.Outcomes.{caller_asked, call_settles, quiet_answers}
use Rattle.machine.proofs.reporting.Reporting.end.Goals as goal
use Rattle.machine.proofs.reporting.Reporting.end.Goals.{After-free_rule-rule, After-none, Joined-is_ok, Then-is_ok, else-is_ok, then-is_ok}

-- where the rule's answer is 0, the caller is the chosen thread
admitted : {m : Machine} {x rule : ℕ} → Asked m x 0 → rule ≡ free_rule m.holds x → rule ≡ 0 → Runs m x
admitted a e z = ends a (sym (end_rule a) ∙ sym e ∙ z)

pub free_rule-rule-requires : goal.free_rule-rule-requires
free_rule-rule-requires c = (listed (facts (caller_asked c.requires).formed)).counts.holds'

pub placed-slots-requires : goal.placed-slots-requires
placed-slots-requires c =
    caller_fits (admitted (caller_asked c.requires) c.free_rule-rule.ensures (zero_of c.free_rule-rule.result (sym c.is_ok.ensures.value ∙ c.if-is_ok.true)))

pub without-queue-requires : goal.without-queue-requires
without-queue-requires c =
    queue_once_lem (facts (caller_asked c.requires).formed) c.args.self.machine.reported

-- what is left before the Switch: the caller may end, or a rule is broken. Last in each way stands the machine.
made : (c : goal.Joined-is_ok) {rs : Reports} → owed rs ≡ [] → Makes c.if-is_ok.m rs c.free_rule-rule.result c.args.self.machine records.End
unfolding end
made c none' =
    let m = c.args.self.machine in
    let a = caller_asked c.requires in
    let e = c.free_rule-rule.ensures ∙ end_rule a in
    elim c.if-is_ok.branch [
      | then-is_ok w ↦ let r = admitted a c.free_rule-rule.ensures (zero_of c.free_rule-rule.result (sym c.is_ok.ensures.value ∙ w.if-is_ok.true)) in
          admits e (by r end) (sym c.is_ok.ensures.value ∙ w.if-is_ok.true) w.m-is refl
          (record {
            plan' = refl;
            keeps = c.requires.asks.stands.keeps;
            seen =
                alike refl
                (ap (λ (k : Slots). conditions_of m.plan.threads k m.wakes) w.placed-slots.ensures ∙ placed_seen m.plan.threads m.slots m.wakes c.args.self.machine.reported 0 (omega arith))
                w.without-queue.ensures
                refl refl refl refl
                none'
                refl;
          })
      | else-is_ok w ↦ refuses e c.requires.asks.stands.keeps (sym c.is_ok.ensures.value ∙ w.if-is_ok.false) w.m-is refl none'
    ]

pub none-requires : goal.none-requires
none-requires c = tt

pub settled-requires : goal.settled-requires
settled-requires c =
    let s = call_settles c.requires (made (goal.at.settled-requires c).Joined-is_ok {rs = array_of c.none.result} ((stores_own c.none.result).stored [] c.none.ensures)) in (s.chooses, s.room)

pub returns : goal.returns
returns c =
    let j = (goal.at.returns c).Joined-is_ok in
    rw c.settled.ensures.owed (record { answers = quiet_answers c.requires (made j (c.settled.ensures.stored.stored [] c.none.ensures)) refl refl; quiet' = refl })
