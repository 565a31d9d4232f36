-- `take` meets its contract: a caller whose base is above every ceiling held by others holds the section, any other waits for it.
use mathlib.Core.Path.{◌≡◌, refl, ap, sym, ◌∙◌}
use mathlib.Core.Bool.{Bool, true, false}
use mathlib.Core.List.{List, [], ◌∷◌}
use Prim.Native.Nat.{ℕ, ◌<◌}
use native.Mathlib.Omega.{arith}
use lib.Dec.{ltb}
use Rattle.model.specs.Searches.{◌▷◌, all}
use Rattle.model.specs.Plan.{Plan}
use Rattle.model.specs.Records as records
use Rattle.model.specs.Records.{Won, Lost}
use Rattle.model.specs.State.{State, waiting, becomes, leave_queue, join_waits, begin_hold, owe}
use Rattle.model.specs.Calls.{take, above_all, held_by_others}
use Rattle.model.proofs.Tests.{from_true}
use Rattle.plan.specs.View.{base_in}
use Rattle.due.specs.declared.reports.Reports.{Reports}
use Rattle.due.specs.Lists.{Stores}
use Rattle.machine.specs.declared.Machine.{Machine}
use Rattle.lists.specs.Lists.{held, ceiling_in}
use Rattle.machine.specs.declared.slots.Slots.{Slots}
use Rattle.machine.specs.View.{conditions_of, plan_of, idle}
use Rattle.machine.specs.Clauses.{Ceilings}
use Rattle.machine.proofs.Answered.{zero_of}
use Rattle.machine.proofs.Admitted.{Takes, Makes, admits, refuses, by}
use Rattle.machine.proofs.Asking.{take-rule, takes}
use Rattle.machine.proofs.Facts.{Facts, facts}
use Rattle.machine.proofs.Room.{queue_once_lem, caller_fits, take-room, waits_room}
use Rattle.machine.proofs.Keeping.{keeps_gained}
use Rattle.machine.proofs.Chosen.{listed, ceiling_in_lem, above_is}
use Rattle.machine.proofs.Views.{waits_seen}
use Rattle.machine.proofs.Meets.{alike, told, stores_own}
use Rattle.machine.proofs.Outcomes.{take_asked, call_settles, quiet_answers}
use Rattle.machine.proofs.reporting.Reporting.take.Goals as goal
use Rattle.machine.proofs.reporting.Reporting.take.Goals.{After-base-b, After-clear, After-clear-arg-1, After-m-1, After-take_rule-rule, After-way_told-1, Else-clear, Joined-is_ok, Start, Then-clear, Then-is_ok, else-is_ok, then-is_ok+else-clear, then-is_ok+then-clear}

-- the code's test is the model's
tested : (m : Machine) (ceilings : List ℕ) → Facts m → Ceilings m ceilings → (x b : ℕ) (r v : Bool) → b ≡ base_in m.plan.threads m.plan.bases x
    → r ≡ all (λ h. ltb (ceiling_in ceilings h) b) (held_by_others x (held m.holds))
    → r ≡ v
    → above_all (plan_of m) x (held_by_others x (held m.holds)) ≡ v
tested m ceilings f c x b r v e q k =
    let hs = held_by_others x (held m.holds) in
    sym (q ∙ ap (λ (n : ℕ). all (λ h. ltb (ceiling_in ceilings h) n) hs) e ∙ above_is m f.valid c x hs) ∙ k

module _ (p : Plan) (x s : ℕ) (st : State) {a : State} where
  won-seen : above_all p x (held_by_others x st.holds) ≡ true → a ≡ (st ▷ begin_hold s x ▷ owe (Won x ∷ [])) → a ≡ take p x s st
  unfolding take
  won-seen e q = rw e q

  lost-seen : above_all p x (held_by_others x st.holds) ≡ false → a ≡ (st ▷ leave_queue x ▷ becomes (waiting s) x ▷ join_waits x ▷ owe (Lost x ∷ [])) → a ≡ take p x s st
  unfolding take
  lost-seen e q = rw e q

pub none-made-requires : goal.none-made-requires
none-made-requires c = tt

section-fits : (s : goal.Start) → s.args.section < 16
section-fits s = let a = take_asked s.requires.calls in omega (arith, a.known, (facts a.asked.formed).fits.sections)

pub take_rule-rule-requires : goal.take_rule-rule-requires
take_rule-rule-requires c =
    let f = facts (take_asked c.requires.calls).asked.formed in
    (f.fits.threads, (listed f).counts.holds', section-fits (goal.at.take_rule-rule-requires c).Start)

-- what is known of the machine that came
known : (s : goal.Start) → Facts s.args.self.machine
known s = facts (take_asked s.requires.calls).asked.formed

-- where no rule is broken, what the rules of Take say holds
granted : (c : goal.Then-is_ok) → (Takes c.args.self.machine c.args.self.machine.reported c.args.section)
granted c = let a = take_asked c.requires.calls in takes a (sym (take-rule a) ∙ sym c.take_rule-rule.ensures ∙ zero_of c.take_rule-rule.result (sym c.is_ok.ensures.value ∙ c.if-is_ok.true))

pub base-b-requires : goal.base-b-requires
base-b-requires c = (known (goal.at.base-b-requires c).Start).fits.threads

pub clear-requires : goal.clear-requires
clear-requires c = (listed (known (goal.at.clear-requires c).Start)).counts.holds'

pub bounds-ceilings-section : goal.bounds-ceilings-section
bounds-ceilings-section c = section-fits (goal.at.bounds-ceilings-section c).Start

pub push-holds-requires : goal.push-holds-requires
push-holds-requires c =
    let m = c.args.self.machine in
    let x = c.args.self.machine.reported in
    let g = granted (goal.at.push-holds-requires c).Then-is_ok in (
      take-room g
          (from_true (above_all (plan_of m) x (held_by_others x (held m.holds)))
          (tested m c.args.ceilings.now (known (goal.at.push-holds-requires c).Start) c.requires.ceilings' x c.base-b.result c.clear.result true c.base-b.ensures c.clear.ensures c.if-clear.true)),
      section-fits (goal.at.push-holds-requires c).Start,
      caller_fits g.runs,
    )

pub one-made-requires : goal.one-made-requires
one-made-requires c = tt

pub without-queue-requires : goal.without-queue-requires
without-queue-requires c = queue_once_lem (known (goal.at.without-queue-requires c).Start) c.args.self.machine.reported

pub waits_for-slots-requires : goal.waits_for-slots-requires
waits_for-slots-requires c = (caller_fits (granted (goal.at.waits_for-slots-requires c).Then-is_ok).runs, section-fits (goal.at.waits_for-slots-requires c).Start)

pub push-waits-requires : goal.push-waits-requires
push-waits-requires c = let g = (granted (goal.at.push-waits-requires c).Then-is_ok).runs in (waits_room g, caller_fits g)

pub one-made-requires-else-clear : goal.one-made-requires-else-clear
one-made-requires-else-clear c = tt

-- what is left before the Switch: the caller wins, the caller waits, a rule is broken. Last in each way stand the machine and the reports.
made : (c : goal.Joined-is_ok) {rs : Reports} → Stores rs c.if-is_ok.made
    → (Makes c.if-is_ok.m rs c.take_rule-rule.result c.args.self.machine (records.Take c.args.section))
made c stored =
    let m = c.args.self.machine in
    let x = c.args.self.machine.reported in
    let n = c.args.section in
    let a = take_asked c.requires.calls in
    let e = c.take_rule-rule.ensures ∙ take-rule a in
    let above = tested m c.args.ceilings.now ((let it : Facts c.args.self.machine = facts (take_asked c.requires.calls).asked.formed in it)) c.requires.ceilings' x in
    elim c.if-is_ok.branch [
      | then-is_ok+then-clear w ↦ admits e (by (takes a (sym e ∙ zero_of c.take_rule-rule.result (sym c.is_ok.ensures.value ∙ w.if-is_ok.true))).runs (λ y. take (plan_of m) y n)) (sym c.is_ok.ensures.value ∙ w.if-is_ok.true) w.m-is refl
          (record {
            plan' = refl;
            keeps = keeps_gained (plan_of m) m.holds w.push-holds.result n x c.requires.calls.asks.stands.keeps (ceiling_in_lem m ((let it : Facts c.args.self.machine = facts (take_asked c.requires.calls).asked.formed in it)).valid c.requires.ceilings' n) w.push-holds.ensures.0 w.push-holds.ensures.1;
            seen =
                won-seen (plan_of m) x n (idle m)
                (above w.base-b.result w.clear.result true w.base-b.ensures w.clear.ensures w.if-clear.true)
                (alike refl refl refl w.push-holds.ensures.0 refl refl refl (told stored w.made-is w.one-made.ensures) refl);
          })
      | then-is_ok+else-clear w ↦ admits e (by (takes a (sym e ∙ zero_of c.take_rule-rule.result (sym c.is_ok.ensures.value ∙ w.if-is_ok.true))).runs (λ y. take (plan_of m) y n)) (sym c.is_ok.ensures.value ∙ w.if-is_ok.true) w.m-is refl
          (record {
            plan' = refl;
            keeps = c.requires.calls.asks.stands.keeps;
            seen =
                lost-seen (plan_of m) x n (idle m)
                (above w.base-b.result w.clear.result false w.base-b.ensures w.clear.ensures w.if-clear.false)
                (alike refl
                (ap (λ (k : Slots). conditions_of m.plan.threads k m.wakes) w.waits_for-slots.ensures ∙ waits_seen m.plan.threads m.slots m.wakes x n ((let it : c.args.section < 16 = let a = take_asked c.requires.calls in omega (arith, a.known, (facts a.asked.formed).fits.sections) in it)))
                w.without-queue.ensures
                refl
                w.push-waits.ensures
                refl refl
                (told stored w.made-is w.one-made-else-clear.ensures)
                refl);
          })
      | else-is_ok w ↦ refuses e c.requires.calls.asks.stands.keeps (sym c.is_ok.ensures.value ∙ w.if-is_ok.false) w.m-is refl (told stored w.made-is c.none-made.ensures)
    ]

pub settled-requires : goal.settled-requires
settled-requires c =
    let j = (goal.at.settled-requires c).Joined-is_ok in
    let s = call_settles c.requires.calls (made j (stores_own j.if-is_ok.made)) in (s.chooses, s.room)

pub returns : goal.returns
returns c =
    rw c.settled.ensures.owed (record { answers = quiet_answers c.requires.calls (made (goal.at.returns c).Joined-is_ok c.settled.ensures.stored) refl refl; quiet' = refl })
