-- `give` meets its contract: the hold ends, and the section that the heir wanted is handed over if no held ceiling bars it.
use mathlib.Core.Bool.{Bool, true, false, not, true≢false}
use mathlib.Core.Path.{◌≡◌, refl, ap, ap₂, sym, ◌∙◌}
use mathlib.Core.List.{List, [], ◌∷◌, Memᴰ as Mem}
use mathlib.Core.Option.{Option, none, some}
use Prim.Native.Nat.{ℕ, ◌<◌}
use native.Mathlib.Omega.{arith}
use lib.ListN.{length}
use Rattle.model.specs.Searches.{◌▷◌, filter, first_greatest}
use Rattle.model.specs.Plan.{Plan}
use Rattle.model.specs.Records as records
use Rattle.model.specs.Records.{Won, Lost, Ready}
use Rattle.model.specs.State.{State, Hold, hold, is_hold, condition, arrive, leave_waits, begin_hold, end_hold, owe}
use Rattle.model.specs.Calls.{wanted, above_all, heir, give}
use Rattle.model.proofs.Searches.{greatest_is}
use Rattle.plan.specs.View.{base_in}
use Rattle.due.specs.declared.reports.Reports.{Reports}
use Rattle.due.specs.Lists.{Stores}
use Rattle.machine.specs.declared.Machine.{Machine}
use Rattle.lists.specs.Words.{nibble, entry_of}
use Rattle.lists.specs.Lists.{numbered, queued, held}
use Rattle.lists.specs.Choice.{inherits_in}
use Rattle.machine.specs.declared.slots.Slots.{Slots}
use Rattle.machine.specs.View.{conditions_of, plan_of, idle}
use Rattle.machine.specs.Clauses.{Ceilings}
use Rattle.machine.proofs.Answered.{zero_of}
use Rattle.machine.proofs.Admitted.{Gives, Makes, admits, refuses, by}
use Rattle.machine.proofs.Asking.{give_rule_lem, gives}
use Rattle.machine.proofs.Conditions.{wants_it}
use Rattle.machine.proofs.Facts.{Facts, facts}
use Rattle.lists.proofs.Laws.{length-held}
use Rattle.clock.specs.View.{number_at}
use Rattle.machine.proofs.Views.{condition_at, placed_seen}
use Rattle.machine.proofs.Room.{waits_once_lem, waiting_known, waiting_fits, waiting_room, held_once_lem, give_room}
use Rattle.machine.proofs.Keeping.{keeps_walked, keeps_gained}
use Rattle.machine.proofs.Chosen.{ceiling_in_lem, ceilings_are, listed, above_is, heir_same, inherits_same, waits_positive}
use Rattle.machine.proofs.Meets.{alike, told, stores_own}
use Rattle.machine.proofs.Outcomes.{give_asked, call_settles, quiet_answers}
use Rattle.machine.proofs.reporting.Reporting.give.Goals as goal
use Rattle.machine.proofs.reporting.Reporting.give.Goals.{After-ceiling-1, After-find_heir-arg-1, After-find_heir-heir, After-give_rule-rule, After-m-1, After-push-holds, After-wanted-arg-1, After-wanted-wanted, After-without-arg-1, After-without-holds, Joined-is_ok, Start, Then-heir, Then-is_ok, else-heir+else-t, else-heir+then-t, else-is_ok, then-heir, then-is_ok}

-- a number other than 255 is a thread's
named : (o : Option ℕ) (who : ℕ) → who ≡ numbered o → (who ≡ 255 → ⊥) → o ≡ some who
named none who e d = absurd (d e)
named (some t) who e d = ap {B = Option ℕ} some (sym e)

abbrev heir_in : Machine → Option ℕ
heir_in m = first_greatest (base_in m.plan.threads m.plan.bases) (queued m.waits)

module _ (m : Machine) (f : Facts m) (who : ℕ) (e : who ≡ numbered (first_greatest (entry_of m.plan.bases) (queued m.waits))) where
  is-heir : who ≡ numbered (heir_in m)
  is-heir = e ∙ ap numbered (heir_same m.plan.bases (listed f))

  -- an heir waits
  waits-for : (who ≡ 255 → ⊥) → Mem who (queued m.waits)
  waits-for d = (greatest_is (base_in m.plan.threads m.plan.bases) (queued m.waits) who (named (heir_in m) who is-heir d)).0

  -- no thread has the number 255
  nobody : who ≡ 255 → heir_in m ≡ none
  nobody k = go (heir_in m) refl is-heir
    where
      go : (o : Option ℕ) → heir_in m ≡ o → who ≡ numbered o → o ≡ none
      go none q r = refl
      go (some t) q r = absurd (omega (arith, waiting_fits f t (greatest_is (base_in m.plan.threads m.plan.bases) (queued m.waits) t q).0))

  -- where nobody waits nobody inherits, so whoever inherits is a thread
  somebody : (ceilings : List ℕ) (hs : List Hold) {r : Bool} → r ≡ inherits_in (entry_of m.plan.bases) ceilings hs (first_greatest (entry_of m.plan.bases) (queued m.waits)) → r ≡ true → who ≡ 255 → ⊥
  somebody ceilings hs q t k =
      true≢false (sym t ∙ q ∙ inherits_same m.plan.bases (listed f) ceilings hs ∙ ap (inherits_in (base_in m.plan.threads m.plan.bases) ceilings hs) (nobody k))

  -- the section that an heir wants is the one that its bits say
  wants_is : (who ≡ 255 → ⊥) → nibble m.slots.wants who ≡ wanted (condition (idle m) who)
  wants_is d =
      let i = waits-for d in
      let r = f.agree.waiting' who i in
      let s = r.0 in
      let at = sym (condition_at m.plan.threads m.slots m.wakes who (waiting_known f who i)) ∙ r.1 in
      wants_it (nibble m.slots.states who) (nibble m.slots.wants who) (number_at m.wakes who) s at (omega (arith, f.wants who s r.1, f.fits.sections)) ∙ sym (ap wanted r.1)

  heir-fits : (who ≡ 255 → ⊥) → who < 16
  heir-fits d = waiting_fits f who (waits-for d)

-- what Give does: nobody waits, the heir wins, the heir loses
module _ (p : Plan) (x s : ℕ) (st : State) {a : State} where
  none_seen : heir p st ≡ none → a ≡ (st ▷ end_hold s x) → a ≡ give p x s st
  unfolding give
  none_seen e q = rw e q

  module _ (w : ℕ) (e : heir p st ≡ some w) where
    won-seen : above_all p w (filter (λ h. not (is_hold s x h)) st.holds) ≡ true
        → a ≡ (st ▷ end_hold s x ▷ leave_waits w ▷ begin_hold (wanted (condition st w)) w ▷ arrive (w ∷ []) ▷ owe (Won w ∷ Ready w ∷ []))
        → a ≡ give p x s st
    unfolding give
    won-seen k q = rw (e, k) q

    lost-seen : above_all p w (filter (λ h. not (is_hold s x h)) st.holds) ≡ false → a ≡ (st ▷ end_hold s x ▷ owe (Lost w ∷ [])) → a ≡ give p x s st
    unfolding give
    lost-seen k q = rw (e, k) q

-- the code's test is the model's
tested : (m : Machine) (ceilings : List ℕ) → (f : Facts m) → Ceilings m ceilings → (w : ℕ) → heir_in m ≡ some w → {hs left : List Hold} → hs ≡ left → (r v : Bool)
    → r ≡ inherits_in (entry_of m.plan.bases) ceilings hs (first_greatest (entry_of m.plan.bases) (queued m.waits))
    → r ≡ v
    → above_all (plan_of m) w left ≡ v
tested m ceilings f c w e {hs} {left} z r v q k =
    sym
    (q
    ∙ inherits_same m.plan.bases (listed f) ceilings hs
    ∙ ap (inherits_in (base_in m.plan.threads m.plan.bases) ceilings hs) e
    ∙ above_is m f.valid c w hs
    ∙ ap (above_all (plan_of m) w) z)
    ∙ k

pub none-made-requires : goal.none-made-requires
none-made-requires c = tt

-- what is known of the machine that came
known : (s : goal.Start) → Facts s.args.self.machine
known s = facts (give_asked s.requires.calls).asked.formed

pub give_rule-rule-requires : goal.give_rule-rule-requires
give_rule-rule-requires c = (listed (known (goal.at.give_rule-rule-requires c).Start)).counts.holds'

-- where no rule is broken, what the rules of Give say holds
granted : (c : goal.Then-is_ok) → (Gives c.args.self.machine c.args.self.machine.reported c.args.section)
granted c = let a = give_asked c.requires.calls in gives a (sym (give_rule_lem a) ∙ sym c.give_rule-rule.ensures ∙ zero_of c.give_rule-rule.result (sym c.is_ok.ensures.value ∙ c.if-is_ok.true))

pub without-holds-requires : goal.without-holds-requires
without-holds-requires c =
    let f = known (goal.at.without-holds-requires c).Start in
    ((listed f).counts.holds', held_once_lem c.args.section c.args.self.machine.reported (held c.args.self.machine.holds) f.held_once)

-- the hold that ended leaves room for another
left-room : (c : goal.After-without-holds) → c.without-holds.result.count < 16
left-room c = omega (arith, length-held c.without-holds.result, ap length c.without-holds.ensures.0, give_room ((let it : (Gives c.args.self.machine c.args.self.machine.reported c.args.section) = let a = give_asked c.requires.calls in gives a (sym (give_rule_lem a) ∙ sym c.give_rule-rule.ensures ∙ zero_of c.give_rule-rule.result (sym c.is_ok.ensures.value ∙ c.if-is_ok.true)) in it)))

pub find_heir-heir-requires : goal.find_heir-heir-requires
find_heir-heir-requires c =
    let f = known (goal.at.find_heir-heir-requires c).Start in
    ((listed f).counts.waits', omega (arith, left-room (goal.at.find_heir-heir-requires c).After-without-holds), waits_positive c.args.self.machine.plan f.valid (listed f))

-- a free heir is a thread that waits
free-heir : (c : goal.Then-heir) → c.find_heir-heir.result.who ≡ 255 → ⊥
free-heir c =
    somebody c.args.self.machine ((let it : Facts c.args.self.machine = facts (give_asked c.requires.calls).asked.formed in it)) c.find_heir-heir.result.who c.find_heir-heir.ensures.0 c.args.ceilings.now (held c.without-holds.result) c.find_heir-heir.ensures.1 c.if-heir.true

heir-below : (c : goal.Then-heir) → c.find_heir-heir.result.who < 16
heir-below c =
    heir-fits c.args.self.machine ((let it : Facts c.args.self.machine = facts (give_asked c.requires.calls).asked.formed in it)) c.find_heir-heir.result.who c.find_heir-heir.ensures.0 (free-heir c)

pub wanted-wanted-requires : goal.wanted-wanted-requires
wanted-wanted-requires c = heir-below (goal.at.wanted-wanted-requires c).Then-heir

pub bounds-ceilings-wanted : goal.bounds-ceilings-wanted
bounds-ceilings-wanted c = omega (arith, c.wanted-wanted.ensures)

pub push-holds-requires : goal.push-holds-requires
push-holds-requires c =
    (left-room (goal.at.push-holds-requires c).After-without-holds, omega (arith, c.wanted-wanted.ensures), heir-below (goal.at.push-holds-requires c).Then-heir)

pub without-waits-requires : goal.without-waits-requires
without-waits-requires c = waits_once_lem (known (goal.at.without-waits-requires c).Start) c.find_heir-heir.result.who

pub placed-slots-requires : goal.placed-slots-requires
placed-slots-requires c = heir-below (goal.at.placed-slots-requires c).Then-heir

pub push-queue-requires : goal.push-queue-requires
push-queue-requires c =
    let f = known (goal.at.push-queue-requires c).Start in
    (waiting_room f c.find_heir-heir.result.who (waits-for c.args.self.machine f c.find_heir-heir.result.who c.find_heir-heir.ensures.0 (free-heir (goal.at.push-queue-requires c).Then-heir)), heir-below (goal.at.push-queue-requires c).Then-heir)

pub won-made-requires : goal.won-made-requires
won-made-requires c = tt

pub one-made-requires : goal.one-made-requires
one-made-requires c = tt

-- What is left before the Switch: no rule is broken, or one is. Where none is, three ways meet: the heir wins, the heir loses, nobody waits. Last in
-- each stand the machine and the reports, and in the inner ones the holds.
made : (c : goal.Joined-is_ok) {rs : Reports} → Stores rs c.if-is_ok.made
    → (Makes c.if-is_ok.m rs c.give_rule-rule.result c.args.self.machine (records.Give c.args.section))
made c stored =
    let m = c.args.self.machine in
    let x = c.args.self.machine.reported in
    let n = c.args.section in
    let a = give_asked c.requires.calls in
    let f = (let it : Facts c.args.self.machine = facts (give_asked c.requires.calls).asked.formed in it) in
    let q = c.give_rule-rule.ensures ∙ give_rule_lem a in
    let none' = c.none-made.ensures in
    elim c.if-is_ok.branch [
      | then-is_ok v ↦ let g = gives a (sym q ∙ zero_of c.give_rule-rule.result (sym c.is_ok.ensures.value ∙ v.if-is_ok.true)) in
          let left = v.without-holds.ensures.0 in
          let t = v.find_heir-heir.result.who in
          let walked = keeps_walked (plan_of m) v.without-holds.result (ceilings_are m f.valid c.requires.ceilings') v.without-holds.ensures.1 in
          let e = v.find_heir-heir.ensures in
          admits q (by g.runs (λ y. give (plan_of m) y n)) (sym c.is_ok.ensures.value ∙ v.if-is_ok.true) v.m-is refl
          (elim v.if-heir.branch [
            | then-heir w ↦ let d = somebody m f t e.0 c.args.ceilings.now (held v.without-holds.result) e.1 w.if-heir.true in
                let o = named (heir_in m) t (is-heir m f t e.0) d in
                rw (w.m-is, w.holds-is)
                (record {
                  plan' = refl;
                  keeps = keeps_gained (plan_of m) v.without-holds.result w.push-holds.result w.wanted-wanted.result t walked (ceiling_in_lem m f.valid c.requires.ceilings' w.wanted-wanted.result) w.push-holds.ensures.0 w.push-holds.ensures.1;
                  seen =
                      won-seen (plan_of m) x n (idle m) t o
                      (tested m c.args.ceilings.now f c.requires.ceilings' t o left v.find_heir-heir.result.free true e.1 w.if-heir.true)
                      (alike refl
                      (ap (λ (k : Slots). conditions_of m.plan.threads k m.wakes) w.placed-slots.ensures ∙ placed_seen m.plan.threads m.slots m.wakes t 1 (omega arith))
                      w.push-queue.ensures
                      (w.push-holds.ensures.0 ∙ ap₂ (λ (k : ℕ) (hs : List Hold). hold k t ∷ hs) (w.wanted-wanted.ensures ∙ wants_is m f t e.0 d) left)
                      w.without-waits.ensures
                      refl refl
                      (told stored (v.made-is ∙ w.made-is) w.won-made.ensures)
                      refl);
                })
            | else-heir+then-t w ↦ let o = named (heir_in m) t (is-heir m f t e.0) w.if-t.true in
                rw (w.m-is, w.holds-is)
                (record {
                  plan' = refl;
                  keeps = walked;
                  seen =
                      lost-seen (plan_of m) x n (idle m) t o
                      (tested m c.args.ceilings.now f c.requires.ceilings' t o left v.find_heir-heir.result.free false e.1 w.if-heir.false)
                      (alike refl refl refl left refl refl refl (told stored (v.made-is ∙ w.made-is) w.one-made.ensures) refl);
                })
            | else-heir+else-t w ↦ rw (w.m-is, w.holds-is)
                (record { plan' = refl; keeps = walked; seen = none_seen (plan_of m) x n (idle m) (nobody m f t e.0 w.if-t.false) (alike refl refl refl left refl refl refl (told stored (v.made-is ∙ w.made-is) none') refl) })
          ])
      | else-is_ok v ↦ refuses q c.requires.calls.asks.stands.keeps (sym c.is_ok.ensures.value ∙ v.if-is_ok.false) v.m-is refl (told stored v.made-is none')
    ]

pub settled-requires : goal.settled-requires
settled-requires c =
    let j = (goal.at.settled-requires c).Joined-is_ok in
    let s = call_settles c.requires.calls (made j (stores_own j.if-is_ok.made)) in (s.chooses, s.room)

pub returns : goal.returns
returns c =
    rw c.settled.ensures.owed (record { answers = quiet_answers c.requires.calls (made (goal.at.returns c).Joined-is_ok c.settled.ensures.stored) refl refl; quiet' = refl })
