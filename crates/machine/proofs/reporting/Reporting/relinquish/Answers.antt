-- `relinquish` meets its contract: a rivalled caller goes to the end of the queue and yields, and any other stays.
use mathlib.Core.Path.{◌≡◌, refl, ap, sym, ◌∙◌}
use mathlib.Core.Bool.{Bool, true, false}
use mathlib.Core.List.{[], ◌∷◌, ◌++◌}
use Prim.Native.Nat.{ℕ, ◌<◌}
use native.Mathlib.Omega.{arith}
use lib.Dec.{T}
use lib.ListN.{length}
use Rattle.model.specs.Plan.{Plan}
use Rattle.model.specs.Records as records
use Rattle.model.specs.Records.{Yield}
use Rattle.model.specs.State.{State, leave_queue, join_queue, owe}
use Rattle.model.specs.Calls.{rivalled, relinquish}
use Rattle.lists.specs.Words.{entry_of}
use Rattle.due.specs.declared.reports.Reports.{Reports}
use Rattle.due.specs.Lists.{Stores}
use Rattle.machine.specs.declared.Machine.{Machine}
use Rattle.lists.specs.Lists.{thread_of, queued}
use Rattle.lists.specs.Choice.{rivalled_in}
use Rattle.machine.specs.View.{plan_of, idle}
use Rattle.machine.specs.Rules.{run_rule}
use Rattle.machine.specs.Kept.{kept}
use Rattle.machine.proofs.Answered.{zero_of}
use Rattle.machine.proofs.Admitted.{Asked, Runs, Makes, admits, refuses, by}
use Rattle.machine.proofs.Asking.{relinquish_rule, relinquishes}
use Rattle.machine.proofs.Facts.{facts}
use Rattle.lists.proofs.Laws.{length-queued}
use Rattle.machine.proofs.Room.{queue_once_lem, caller_known, caller_fits, without_room}
use Rattle.machine.proofs.Chosen.{listed, rivalled_is, rivalled_same}
use Rattle.machine.proofs.Meets.{alike, told, stores_own}
use Rattle.machine.proofs.Outcomes.{caller_asked, call_settles, quiet_answers}
use Rattle.machine.proofs.reporting.Reporting.relinquish.Goals as goal
use Rattle.machine.proofs.reporting.Reporting.relinquish.Goals.{After-bases-1, After-rivalled_of-arg-1, After-rivalled_of-arg-then-is_ok-1, After-run_rule-rule, Joined-is_ok, else-is_ok, then-is_ok+else-rivalled_of, then-is_ok+then-rivalled_of}

yields : (p : Plan) (x : ℕ) (st : State) → rivalled p x st ≡ true → relinquish p x st ≡ owe (Yield x ∷ []) (join_queue x (leave_queue x st))
unfolding relinquish
yields p x st e = rw e

stays : (p : Plan) (x : ℕ) (st : State) → rivalled p x st ≡ false → relinquish p x st ≡ st
unfolding relinquish
stays p x st e = rw e

module _ {m : Machine} {x : ℕ} (a : Asked m x 0) where
  -- where the rule's answer is 0, the caller is the chosen thread
  admitted : {rule : ℕ} → rule ≡ run_rule x → rule ≡ 0 → Runs m x
  admitted e z = relinquishes a (sym (relinquish_rule a) ∙ sym e ∙ z)

  -- the code's test is the model's
  tested : T (kept m) → (r v : Bool)
      → x < m.plan.threads
      → r ≡ rivalled_in (entry_of m.plan.bases) (thread_of m.holds.top.owner) (queued m.queue) (queued m.waits) x
      → r ≡ v
      → rivalled (plan_of m) x (idle m) ≡ v
  tested t r v h e k = sym (e ∙ rivalled_same m.plan.bases (listed (facts a.formed)) (thread_of m.holds.top.owner) x h ∙ rivalled_is m t [] x) ∙ k

pub none-made-requires : goal.none-made-requires
none-made-requires c = tt

pub run_rule-rule-requires : goal.run_rule-rule-requires
run_rule-rule-requires c = tt

pub rivalled_of-requires : goal.rivalled_of-requires
rivalled_of-requires c =
    let a = caller_asked c.requires in
    let n = (listed (facts a.formed)).counts in
    (n.queue', n.waits', caller_fits (admitted a c.run_rule-rule.ensures (zero_of c.run_rule-rule.result (sym c.is_ok.ensures.value ∙ c.if-is_ok.true))))

pub without-others-requires : goal.without-others-requires
without-others-requires c =
    queue_once_lem (facts (caller_asked c.requires).formed) c.args.self.machine.reported

pub push-queue-requires : goal.push-queue-requires
push-queue-requires c =
    let r = admitted (caller_asked c.requires) c.run_rule-rule.ensures (zero_of c.run_rule-rule.result (sym c.is_ok.ensures.value ∙ c.if-is_ok.true)) in
    (omega (arith, length-queued c.without-others.result, ap length c.without-others.ensures, without_room r), caller_fits r)

pub one-made-requires : goal.one-made-requires
one-made-requires c = tt

-- what is left before the Switch: the caller is rivalled, it is not, or the rule is broken. Last in each way stand the machine and the reports.
made : (c : goal.Joined-is_ok) {rs : Reports} → Stores rs c.if-is_ok.made → (Makes c.if-is_ok.m rs c.run_rule-rule.result c.args.self.machine records.Relinquish)
made c stored =
    let m = c.args.self.machine in
    let x = c.args.self.machine.reported in
    let a = caller_asked c.requires in
    let e = c.run_rule-rule.ensures ∙ relinquish_rule a in
    let none' = c.none-made.ensures in
    elim c.if-is_ok.branch [
      | then-is_ok+then-rivalled_of w ↦ let g = admitted a c.run_rule-rule.ensures (zero_of c.run_rule-rule.result (sym c.is_ok.ensures.value ∙ w.if-is_ok.true)) in
          let t = tested a c.requires.asks.stands.keeps w.rivalled_of.result true (caller_known g) w.rivalled_of.ensures w.if-rivalled_of.true in
          admits e (by g (relinquish (plan_of m)) ∙ yields (plan_of m) x (idle m) t) (sym c.is_ok.ensures.value ∙ w.if-is_ok.true) w.m-is refl
          (record {
            plan' = refl;
            keeps = c.requires.asks.stands.keeps;
            seen =
                alike refl refl
                (w.push-queue.ensures ∙ ap (λ l. l ++ (x ∷ [])) w.without-others.ensures)
                refl refl refl refl
                (told stored w.made-is w.one-made.ensures)
                refl;
          })
      | then-is_ok+else-rivalled_of w ↦ let g = admitted a c.run_rule-rule.ensures (zero_of c.run_rule-rule.result (sym c.is_ok.ensures.value ∙ w.if-is_ok.true)) in
          let t = tested a c.requires.asks.stands.keeps w.rivalled_of.result false (caller_known g) w.rivalled_of.ensures w.if-rivalled_of.false in
          admits e (by g (relinquish (plan_of m)) ∙ stays (plan_of m) x (idle m) t) (sym c.is_ok.ensures.value ∙ w.if-is_ok.true) w.m-is refl
          (record { plan' = refl; keeps = c.requires.asks.stands.keeps; seen = alike refl refl refl refl refl refl refl (told stored w.made-is none') refl })
      | else-is_ok w ↦ refuses e c.requires.asks.stands.keeps (sym c.is_ok.ensures.value ∙ w.if-is_ok.false) w.m-is refl (told stored w.made-is none')
    ]

pub settled-requires : goal.settled-requires
settled-requires c =
    let j = (goal.at.settled-requires c).Joined-is_ok in
    let s = call_settles c.requires (made j (stores_own j.if-is_ok.made)) in (s.chooses, s.room)

pub returns : goal.returns
returns c =
    rw c.settled.ensures.owed (record { answers = quiet_answers c.requires (made (goal.at.returns c).Joined-is_ok c.settled.ensures.stored) refl refl; quiet' = refl })
