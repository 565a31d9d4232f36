-- A run over the calls of a list: what is known after k calls, each made with the reports of earlier ones given.
use mathlib.Core.Path.{◌≡◌, refl, ap, sym, subst, ◌∙◌}
use mathlib.Core.Bool.{Bool, true, false, cond}
use mathlib.Core.List.{List, [], ◌∷◌, ◌++◌, map, append_assoc, append-nil}
use mathlib.Core.Option.{Option, none, some}
use Prim.Native.Nat.{ℕ, ◌+◌, ◌*◌, ◌≤◌, ◌<◌}
use native.Mathlib.Omega.{arith}
use lib.Dec.{T}
use lib.ListN.{length, drop, length-append, length-map}
use Rattle.std.specs.Prelude.{is_ok}
use Rattle.model.specs.Plan as model
use Rattle.model.specs.Records as records
use Rattle.model.specs.Records.{Call, call, report, allowed}
use Rattle.model.specs.Timers.{is_complete}
use Rattle.model.specs.State as state
use Rattle.model.specs.Runs.{moved, broke, step}
use Rattle.model.specs.Bench.{deliver_all, behind, bench_from}
use Rattle.model.proofs.Laws.{Reached, begin, next, due_fits, tick_at_most, bench_begins, bench_ended, bench_moved, bench_broke, settled_reached}
use Rattle.plan.specs.View as plans
use Rattle.plan.specs.declared.Plan.{Plan}
use Rattle.plan.proofs.Laws.{threads_view}
use Rattle.machine.specs.declared.state.State.{State}
use Rattle.machine.specs.View.{plan_of, view}
use Rattle.machine.specs.Rules.{answer_number}
use Rattle.machine.specs.Kept.{kept}
use Rattle.machine.specs.Clauses.{Fresh}
use Rattle.machine.proofs.Laws.{stands_formed, keeps_on, ceilings_of}
use Rattle.dump.specs.Layout.{kind_at, operand_at, record_at}
use Rattle.dump.specs.Questions.{operand_fits}
use Rattle.walk.specs.declared.single.Stepped.{Stepped}
use Rattle.walk.specs.Clauses.{Single, Advances}
use Rattle.kernel.specs.Answers.{is_made, records_of}
use Rattle.kernel.specs.Clauses.{Passed, Settles, made_of}
use Rattle.kernel.proofs.Giving.{IsFormed}
use Rattle.kernel.proofs.CallList.{calls, call_at, plan_fits, list_whole, calls_few, calls_end, call_is, call_fits_lem, call_next, call_allowed}

-- records behind none, and behind others that are behind others

behind-nil : (o : Option (List records.Record)) → behind [] o ≡ o
behind-nil none = refl
behind-nil (some rs) = refl

behind_both : (a b : List records.Record) (o : Option (List records.Record)) → behind a (behind b o) ≡ behind (a ++ b) o
behind_both a b none = refl
behind_both a b (some rs) = ap {B = Option (List records.Record)} some (sym (append_assoc a b rs))

behind_last : (a : List records.Record) (b : Bool) → behind a (cond b (some []) none) ≡ cond b (some a) none
behind_last a true = ap {B = Option (List records.Record)} some (append-nil a)
behind_last a false = refl

-- after k calls: the state, and the records so far; a call makes T + 9 reports at most, so 26 records
pub record CallsMade (p : Plan) (list : List ℕ) (k : ℕ) (s : State) (done : List records.Record) : Type 0 where
  pub plan' : s.machine.plan ≡ p
  pub keeps : T (kept s.machine)
  pub reached : Reached (plans.view p) (view s)
  pub tick : (view s).tick_number ≤ k
  pub few : length done ≤ 26 * k
  pub so_far : made_of p list ≡ behind done (bench_from (plans.view p) (view s) (drop k (calls list)))

-- at the start nothing is written
pub made_begin : (p : Plan) (list : List ℕ) (s : State) → Fresh s p → CallsMade p list 0 s []
made_begin p list s f =
    record {
      plan' = f.plan';
      keeps = f.keeps;
      reached = subst (Reached (plans.view p)) (sym f.seen) begin;
      tick = omega (arith, ap (λ (st : state.State). st.tick_number) f.seen);
      few = omega arith;
      so_far = bench_begins (plans.view p) (calls list) ∙ ap (λ (st : state.State). bench_from (plans.view p) st (calls list)) (sym f.seen) ∙ sym (behind-nil (bench_from (plans.view p) (view s) (calls list)));
    }

-- call k with its reports behind it
abbrev pub added : (list : List ℕ) (k : ℕ) → state.State → List records.Record
added list k after = call (call_at list k) ∷ map report after.due

pub added_count : (done : List records.Record) (list : List ℕ) (k : ℕ) (after : state.State) → length (done ++ added list k after) ≡ length done + 1 + length after.due
added_count done list k after = omega (arith, length-append done (added list k after), length-map after.due report)

-- records with others behind them are among the whole
behind_within : (rs : List records.Record) (o : Option (List records.Record)) → T (is_made (behind rs o)) → length rs ≤ length (records_of (behind rs o))
behind_within rs none t = absurd t
behind_within rs (some rest) t = omega (arith, length-append rs rest)

module _ {p : Plan} {ceilings list : List ℕ} {n : ℕ} (passed : Passed p ceilings list n) {k : ℕ} {s : State} {done : List records.Record} (m : CallsMade p list k s done) where
  -- after the last call the records so far are all, where no arming is in progress
  pub made_all : n ≤ k → made_of p list ≡ cond (is_complete (view s).timers.arming) (some done) none
  made_all h =
      m.so_far ∙ ap (λ (ks : List Call). behind done (bench_from (plans.view p) (view s) ks)) (calls_end passed k h)
      ∙ ap (behind done) (bench_ended (plans.view p) (view s)) ∙ behind_last done (is_complete (view s).timers.arming)

  -- where something is written, none is
  pub made_written : n ≤ k → T (is_made (made_of p list)) → made_of p list ≡ some done
  made_written h t = go (is_complete (view s).timers.arming) (made_all h)
    where
      go : (b : Bool) → made_of p list ≡ cond b (some done) none → made_of p list ≡ some done
      go true e = e
      go false e = absurd (subst (λ (l : Option (List records.Record)). T (is_made l)) e t)

  -- what holds for the plan holds for the plan that the state carries
  carried : (P : model.Plan → Type 0) → P (plans.view p) → P (plan_of s.machine)
  carried P h = subst (λ (q : Plan). P (plans.view q)) (sym m.plan') h

  module _ (h : k < n) where
    -- record k is call k
    is_call : record_at list k ≡ call (call_at list k)
    is_call = sym (call_is passed k h)

    pub made_steps : Single s ceilings list k
    made_steps =
        record {
          formed' = stands_formed s (carried (λ q. T (model.valid_plan q)) passed.valid) (carried (λ q. Reached q (view s)) m.reached) (omega (arith, m.tick, calls_few passed));
          keeps = m.keeps;
          ceilings' = ceilings_of s.machine p ceilings m.plan' passed.ceilings';
          whole = list_whole passed;
          within = omega (arith, h, passed.count);
          operand' = subst (λ (q : Plan). T (operand_fits q.threads q.sections (kind_at list k) (operand_at list k))) (sym m.plan') (call_fits_lem passed k h);
          room = λ z. omega (arith, m.tick, calls_few passed);
        }

    module _ (o : Stepped) (a : Advances o.state o.rule s (record_at list k)) where
      -- the model's step for the call, in the plan that came
      as_call : (P : model.Plan → records.Record → Type 0) → P (plan_of s.machine) (record_at list k) → P (plans.view p) (call (call_at list k))
      as_call P g = subst (λ (r : records.Record). P (plans.view p) r) is_call (subst (λ (q : Plan). P (plans.view q) (record_at list k)) m.plan' g)

      -- what is written from here on
      onwards : bench_from (plans.view p) (view s) (drop k (calls list)) ≡ bench_from (plans.view p) (view s) (call_at list k ∷ drop (k + 1) (calls list))
      onwards = ap (bench_from (plans.view p) (view s)) (call_next passed k h)

      outcome : {b : Bool} → is_ok o.rule ≡ b → step (plans.view p) (view s) (call (call_at list k)) ≡ cond b (moved (view o.state)) (broke (answer_number o.rule))
      outcome {b} e =
          as_call (λ q r. step q (view s) r ≡ cond b (moved (view o.state)) (broke (answer_number o.rule)))
          (sym a.outcome ∙ ap (λ c. cond c (moved (view o.state)) (broke (answer_number o.rule))) e)

      -- a call that is not admitted: nothing is written
      pub made_broke : is_ok o.rule ≡ false → made_of p list ≡ none
      made_broke d =
          m.so_far
          ∙ ap (behind done) (onwards ∙ bench_broke (plans.view p) (view s) (call_at list k) (drop (k + 1) (calls list)) (answer_number o.rule) (outcome d))

      -- where something is written, every call is admitted
      pub made_admitted : T (is_made (made_of p list)) → is_ok o.rule ≡ true
      made_admitted t = go (is_ok o.rule) refl
        where
          go : (b : Bool) → is_ok o.rule ≡ b → is_ok o.rule ≡ true
          go true e = e
          go false d = absurd (subst (λ (l : Option (List records.Record)). T (is_made l)) (made_broke d) t)

      module _ (z : is_ok o.rule ≡ true) where
        moves_call : step (plans.view p) (view s) (call (call_at list k)) ≡ moved (view o.state)
        moves_call = outcome z

        reached_call : Reached (plans.view p) (view o.state)
        reached_call =
            next (call (call_at list k)) m.reached
            (subst (λ (r : records.Record). T (allowed (plans.view p) r)) (sym (call_is passed k h)) (call_allowed passed k h))
            moves_call

        tick_after : (view o.state).tick_number ≤ k + 1
        tick_after = omega (arith, m.tick, tick_at_most (plans.view p) (view s) m.reached (call (call_at list k)) (view o.state) moves_call)

        pub made_due : length (view o.state).due ≤ 25
        made_due = omega (arith, due_fits (plans.view p) (view o.state) reached_call, threads_view p, (plan_fits passed).threads)

        pub made_formed : IsFormed o.state
        made_formed =
            let e = a.plan' ∙ m.plan' in
            stands_formed o.state
            (subst (λ (q : Plan). T (model.valid_plan (plans.view q))) (sym e) passed.valid)
            (subst (λ (q : Plan). Reached (plans.view q) (view o.state)) (sym e) reached_call)
            (omega (arith, tick_after, calls_few passed))

        later : made_of p list ≡ behind (done ++ added list k (view o.state)) (bench_from (plans.view p) (deliver_all (view o.state)) (drop (k + 1) (calls list)))
        later =
            m.so_far
            ∙ ap (behind done) (onwards ∙ bench_moved (plans.view p) (view s) (call_at list k) (drop (k + 1) (calls list)) (view o.state) moves_call)
            ∙ behind_both done (added list k (view o.state)) (bench_from (plans.view p) (deliver_all (view o.state)) (drop (k + 1) (calls list)))

        -- where something is written, they are among its records
        pub made_within : T (is_made (made_of p list)) → length done + 1 + length (view o.state).due ≤ length (records_of (made_of p list))
        made_within t =
            let rest = bench_from (plans.view p) (deliver_all (view o.state)) (drop (k + 1) (calls list)) in
            let w = behind_within (done ++ added list k (view o.state)) rest (subst (λ (l : Option (List records.Record)). T (is_made l)) later t) in
            omega (arith, w, added_count done list k (view o.state), ap (λ (l : Option (List records.Record)). length (records_of l)) later)

        pub made_next : (s' : State) → Settles s' o.state → CallsMade p list (k + 1) s' (done ++ added list k (view o.state))
        made_next s' e =
            let v = plans.view p in
            let after = view o.state in
            record {
              plan' = e.plan' ∙ a.plan' ∙ m.plan';
              keeps = keeps_on o.state.machine s'.machine e.plan' e.holds' a.keeps;
              reached = subst (Reached v) (sym e.seen) (settled_reached v after reached_call);
              tick = omega (arith, tick_after, ap (λ (st : state.State). st.tick_number) e.seen);
              few = omega (arith, m.few, made_due, added_count done list k after);
              so_far = later ∙ ap (λ (st : state.State). behind (done ++ added list k (view o.state)) (bench_from v st (drop (k + 1) (calls list)))) (sym e.seen);
            }
