-- `create` meets its contract: the thread is ready, last in the queue and reported.
use mathlib.Core.Path.{◌≡◌, refl, ap, sym, ◌∙◌}
use Prim.Native.Nat.{ℕ, ◌<◌}
use native.Mathlib.Omega.{arith}
use Rattle.model.specs.Records as records
use Rattle.model.specs.Calls.{create}
use Rattle.due.specs.declared.reports.Reports.{Reports}
use Rattle.due.specs.Lists.{Stores}
use Rattle.machine.specs.declared.Machine.{Machine}
use Rattle.machine.specs.declared.slots.Slots.{Slots}
use Rattle.machine.specs.View.{conditions_of}
use Rattle.machine.specs.Rules.{create_rule}
use Rattle.machine.proofs.Answered.{zero_of}
use Rattle.machine.proofs.Admitted.{CreateAsked, Creates, Makes, admits, refuses}
use Rattle.machine.proofs.Asking.{create_rule_lem, creates}
use Rattle.machine.proofs.Facts.{facts}
use Rattle.machine.proofs.Room.{create_room}
use Rattle.machine.proofs.Views.{placed_seen}
use Rattle.machine.proofs.Meets.{alike, told, stores_own}
use Rattle.machine.proofs.Outcomes.{create_asked, call_settles, quiet_answers}
use Rattle.machine.proofs.reporting.Reporting.create.Goals as goal
use Rattle.machine.proofs.reporting.Reporting.create.Goals.{After-placed-arg-1, After-placed-slots, Joined-is_ok, else-is_ok, then-is_ok}

module _ {m : Machine} {t : ℕ} (a : CreateAsked m t) where
  thread-fits : t < 16
  thread-fits = omega (arith, a.known, (facts a.formed).fits.threads)

  -- where the rule's answer is 0, the thread is dormant
  admitted : {rule : ℕ} → rule ≡ create_rule m.slots t → rule ≡ 0 → Creates m t
  admitted e z = creates a (sym (create_rule_lem a) ∙ sym e ∙ z)

pub none-made-requires : goal.none-made-requires
none-made-requires c = tt

pub create_rule-rule-requires : goal.create_rule-rule-requires
create_rule-rule-requires c = thread-fits (create_asked c.requires)

pub placed-slots-requires : goal.placed-slots-requires
placed-slots-requires c = thread-fits (create_asked c.requires)

pub push-queue-requires : goal.push-queue-requires
push-queue-requires c =
    let a = create_asked c.requires in
    (create_room (admitted a c.create_rule-rule.ensures (zero_of c.create_rule-rule.result (sym c.is_ok.ensures.value ∙ c.if-is_ok.true))), thread-fits a)

pub one-made-requires : goal.one-made-requires
one-made-requires c = tt

-- what is left before the Switch: the thread was dormant, or the rule is broken. Last in each way stand the machine and the reports.
made : (c : goal.Joined-is_ok) {rs : Reports} → Stores rs c.if-is_ok.made
    → (Makes c.if-is_ok.m rs c.create_rule-rule.result c.args.self.machine (records.Create c.args.thread))
unfolding create
made c stored =
    let m = c.args.self.machine in
    let a = create_asked c.requires in
    let e = c.create_rule-rule.ensures ∙ create_rule_lem a in
    elim c.if-is_ok.branch [
      | then-is_ok w ↦ admits e refl (sym c.is_ok.ensures.value ∙ w.if-is_ok.true) w.m-is refl
          (record {
            plan' = refl;
            keeps = c.requires.asks.stands.keeps;
            seen =
                alike refl
                (ap (λ (k : Slots). conditions_of m.plan.threads k m.wakes) w.placed-slots.ensures ∙ placed_seen m.plan.threads m.slots m.wakes c.args.thread 1 (omega arith))
                w.push-queue.ensures
                refl refl refl refl
                (told stored w.made-is w.one-made.ensures)
                refl;
          })
      | else-is_ok w ↦ refuses e c.requires.asks.stands.keeps (sym c.is_ok.ensures.value ∙ w.if-is_ok.false) w.m-is refl (told stored w.made-is c.none-made.ensures)
    ]

pub settled-requires : goal.settled-requires
settled-requires c =
    let j = (goal.at.settled-requires c).Joined-is_ok in
    let s = call_settles c.requires (made j (stores_own j.if-is_ok.made)) in (s.chooses, s.room)

pub returns : goal.returns
returns c =
    rw c.settled.ensures.owed (record { answers = quiet_answers c.requires (made (goal.at.returns c).Joined-is_ok c.settled.ensures.stored) refl refl; quiet' = refl })
