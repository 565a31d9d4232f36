-- One record on a lent state: what it leaves known where nothing refuses it, and what is told of it.
use mathlib.Core.Path.{◌≡◌, refl, ap, ap₂, sym, ◌∙◌}
use mathlib.Core.Logic.{◌⊎◌, inl, inr, ◌≢◌}
use mathlib.Core.Bool.{Bool, true, false, not, ◌&&◌}
use mathlib.Core.Option.{none, some}
use Prim.Native.Nat.{ℕ, ◌<◌}
use native.Mathlib.Omega.{arith}
use borrow.Author.Tests.{eq-eqb, ne_eqb}
use lib.Dec.{T, eqb, T_not}
use lib.ListN.{length}
use Rattle.std.specs.Prelude.{Result, is_ok}
use Rattle.model.specs.Plan.{Plan, threads}
use Rattle.model.specs.State as state
use Rattle.model.specs.Runs.{Outcome, moved, broke}
use Rattle.model.specs.Formed.{last_tick, formed}
use Rattle.model.proofs.Tests.{and_left, and_right, and_both, eq_test, equal?}
use Rattle.model.proofs.Laws.{WellFormed, all_yes}
use Rattle.keeping.specs.Top.{Top, walk, set_by}
use Rattle.keeping.proofs.Laws.{fits_walk, set-moved}
use Rattle.plan.specs.declared.Plan as declared
use Rattle.plan.specs.View as plans
use Rattle.plan.proofs.Laws.{threads_view}
use Rattle.machine.specs.declared.Machine.{Machine}
use Rattle.machine.specs.declared.state.State.{State}
use Rattle.lists.specs.Lists.{held, top_of}
use Rattle.machine.specs.View.{plan_of, view}
use Rattle.machine.specs.declared.rules.Rule.{Rule}
use Rattle.machine.specs.Rules.{answer_number}
use Rattle.machine.specs.Kept.{kept}
use Rattle.machine.proofs.Laws.{formed_facts}
use Rattle.dump.specs.Layout.{record_of}
use Rattle.dump.specs.Questions.{kind_allowed, operand_fits}
use Rattle.live.specs.declared.live.Watch.{Watch}
use Rattle.live.specs.declared.live.Reply.TheVariants as says
use Rattle.live.specs.Watching as watching
use Rattle.live.specs.Watching.{is_rule, questions, refusal, outcome_of, reply_of, stored, reply, after}
use Rattle.walk.specs.Clauses.{Advances}
use Rattle.walk.proofs.Laws.{answers_moved, answers_broke}
use Rattle.live.specs.Clauses.{Asked, seen, question, Tells}
use Rattle.live.specs.declared.live.Refusal.{Refusal}

-- the answer Yes to 12, 7, 8 and 13
pub record Passed (w : Watch) (kind operand : ℕ) : Type 0 where
  pub formed' : T (formed (plan_of w.state.machine) (view w.state))
  pub keeps : T (kept w.state.machine)
  pub kind' : T (kind_allowed false kind)
  pub operand' : T (operand_fits (threads (plan_of w.state.machine)) w.state.machine.plan.sections kind operand)
  pub tick' : T (not (eqb kind 7 && eqb (view w.state).tick_number last_tick))

module _ (w : Watch) (k n : ℕ) where
  pub passed : refusal (seen w) k n ≡ none → Passed w k n
  unfolding refusal
  passed e =
      let r = all_yes (questions (seen w) k n) e in
      let is : Bool = formed (plan_of w.state.machine) (view w.state) in
      let says : Bool = kept w.state.machine in
      let both = and_left (is && says) (is_rule w.rule) r.0 in
      record { formed' = and_left is says both; keeps = and_right is says both; kind' = r.1.0; operand' = r.1.1.0; tick' = r.1.1.1.0 }

module _ {w : Watch} {k n : ℕ} (a : Passed w k n) where
  abbrev m : Machine
  m = w.state.machine

  abbrev st : state.State
  st = view w.state

  -- what is known of the lent state
  pub known : WellFormed (plan_of m) st
  known = formed_facts w.state a.formed'

  room : k ≡ 7 → st.tick_number < last_tick
  room q = go (equal? st.tick_number last_tick)
    where
      go : (st.tick_number ≡ last_tick) ⊎ (st.tick_number ≢ last_tick) → st.tick_number < last_tick
      go (inl z) = absurd (T_not (eqb k 7 && eqb st.tick_number last_tick) a.tick' (and_both (eqb k 7) (eqb st.tick_number last_tick) (eq_test k 7 q) (eq_test st.tick_number last_tick z)))
      go (inr d) = omega (arith, known.standing.tick)

  -- the record can be judged, from the lent state
  pub asked : Asked w.state k n
  asked = record { formed' = a.formed'; keeps = a.keeps; operand' = rw (threads_view m.plan) at a.operand'; room = room }

-- replies differ, and a broken rule is told

refused_broken : {q m : ℕ} → watching.refused q ≡ watching.broken m → ⊥
refused_broken e = let z : ◌≡◌ {A = ℕ} 0 1 = cc in omega arith

refused_clean : {q m : ℕ} → watching.refused q ≡ watching.clean m → ⊥
refused_clean e = let z : ◌≡◌ {A = ℕ} 0 1 = cc in omega arith

broken_clean : {q m : ℕ} → watching.broken q ≡ watching.clean m → ⊥
broken_clean e = let z : ◌≡◌ {A = ℕ} 0 1 = cc in omega arith

broken_tells : {q m : ℕ} → watching.broken q ≡ watching.broken m → q ≡ m
broken_tells e = cc

-- what a step answers and leaves, as the definitions have it: a question's number, a stored rule, or what the record does
module _ (w : Watch) (k n : ℕ) where
  refuses : {q : ℕ} → refusal (seen w) k n ≡ some q → (reply (seen w) k n ≡ watching.refused q) × (after (seen w) k n ≡ seen w)
  unfolding reply after
  refuses {q} o = (rw o, rw o)

  module _ (e : refusal (seen w) k n ≡ none) where
    repeats : w.rule ≢ 0 → (reply (seen w) k n ≡ watching.broken w.rule) × (after (seen w) k n ≡ seen w)
    unfolding reply after
    repeats d = (rw (e, ne_eqb w.rule 0 d), rw (e, ne_eqb w.rule 0 d))

    judges : w.rule ≡ 0 → (o : Outcome) → outcome_of (seen w) k n ≡ o → (reply (seen w) k n ≡ reply_of o) × (after (seen w) k n ≡ stored (seen w) (record_of k n) o)
    unfolding reply after
    judges d o q = (rw (e, eq-eqb w.rule 0 d, q), rw (e, eq-eqb w.rule 0 d, q))

  -- the same of the code's answer and state

  pub tells_refused : {q : Refusal} → some (question q) ≡ refusal (seen w) k n → Tells (record { watch = w; reply = says.Refused q }) w k n
  tells_refused e =
      let r = refuses (sym e) in
      record {
        answer = sym r.0;
        leaves = sym r.1;
        refused' = λ m x. refl;
        stored' = λ x. refl;
        breach' = λ m x y. absurd (refused_broken (sym r.0 ∙ y));
      }

  module _ (e : refusal (seen w) k n ≡ none) where
    pub tells_stored : w.rule ≢ 0 → Tells (record { watch = w; reply = says.Broken w.rule }) w k n
    tells_stored d =
        let r = repeats e d in
        record {
          answer = sym r.0;
          leaves = sym r.1;
          refused' = λ m x. refl;
          stored' = λ x. refl;
          breach' = λ m x y. absurd (d x);
        }

    module _ (d : w.rule ≡ 0) {after' : State} {rule' : Result Unit Rule} (a : Advances after' rule' w.state (record_of k n)) where
      pub tells_broken : is_ok rule' ≡ false → {m : ℕ} → m ≡ answer_number rule' → Tells (record { watch = record { state = w.state; rule = m }; reply = says.Broken m }) w k n
      tells_broken f {m} q =
          let r = judges e d (broke m) (rw q (answers_broke a f)) in
          record {
            answer = sym r.0;
            leaves = sym r.1;
            refused' = λ m y. absurd (refused_broken (sym y ∙ r.0));
            stored' = λ y. absurd (y d);
            breach' = λ m y z. ap (λ m. record { state = w.state; rule = m }) (broken_tells (sym r.0 ∙ z));
          }

      -- what is kept is what the record sets: both are the walk's result
      sets : T (kept w.state.machine) → is_ok rule' ≡ true → top_of after'.machine.holds.top ≡ set_by (plan_of w.state.machine) (record_of k n) (view w.state) (top_of w.state.machine.holds.top)
      sets t f =
          let p = plan_of w.state.machine in
          fits_walk (plan_of after'.machine) (held after'.machine.holds) (top_of after'.machine.holds.top) a.keeps
          ∙ ap (λ (q : declared.Plan). walk (plans.view q) (held after'.machine.holds)) a.plan'
          ∙ sym (set-moved p (view w.state) (record_of k n) (view after') (answers_moved a f))
          ∙ ap (set_by p (record_of k n) (view w.state)) (sym (fits_walk p (held w.state.machine.holds) (top_of w.state.machine.holds.top) t))

      pub tells_clean : {due : ℕ} → is_ok rule' ≡ true → due ≡ length (view after').due → Tells (record { watch = record { state = after'; rule = w.rule }; reply = says.Clean due }) w k n
      tells_clean f g =
          let r = judges e d (moved (view after')) (answers_moved a f) in
          record {
            answer = ap watching.clean g ∙ sym r.0;
            leaves = ap₂ (λ (p : Plan) (t : Top). record { plan = p; state = view after'; top = t; rule = w.rule }) (ap plans.view a.plan') (sets (passed w k n e).keeps f) ∙ sym r.1;
            refused' = λ m y. absurd (refused_clean (sym y ∙ r.0));
            stored' = λ y. absurd (y d);
            breach' = λ m y z. absurd (broken_clean (sym z ∙ r.0));
          }
