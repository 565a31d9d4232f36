-- What is answered of a record, by whether it breaks a rule. And of records that are no call to be made: outside its place a record breaks 31; where
-- something is due a call other than Tick breaks 21, and a report is compared with the first due; where nothing is due a report breaks 28.
use mathlib.Core.Path.{◌≡◌, refl, ap, ap₂, sym, subst, ◌∙◌}
use mathlib.Core.Logic.{◌⊎◌, inl, inr, ◌≢◌}
use mathlib.Core.Bool.{Bool, false, cond, not, ◌||◌}
use mathlib.Core.List.{List}
use mathlib.Core.Option.{Option, none, some}
use Prim.Native.Nat.{ℕ, suc, ◌%◌, ◌≤◌, ◌<◌}
use native.Mathlib.Omega.{arith}
use borrow.Author.Tests.{eq-eqb, ne_eqb, lt-ltb}
use lib.Dec.{T, eqb}
use lib.ListN.{drop}
use Rattle.model.specs.Searches.{is_empty}
use Rattle.model.specs.Plan as plan
use Rattle.model.specs.Records as records
use Rattle.model.specs.Records.{Call, call, report, is_tick}
use Rattle.model.specs.State as state
use Rattle.model.specs.Rules.{first_no, place, in_order, later_questions, broken}
use Rattle.model.specs.Runs.{moved, broke, outcome, deliver, effect, step}
use Rattle.model.proofs.Tests.{equal?, split, is_true, is_false}
use Rattle.plan.proofs.Laws.{threads_view}
use Rattle.clock.specs.Clauses.{kind_place}
use Rattle.due.specs.declared.reports.Report.{Report}
use Rattle.machine.specs.declared.reporting.Reporting.{Reporting}
use Rattle.due.specs.Lists.{thread_of, report_of, listed, IsReport}
use Rattle.machine.specs.View.{plan_of, report_at, shown}
use Rattle.machine.specs.Rules.{rule_number, due_rule}
use Rattle.machine.specs.Records.{Named}
use Rattle.machine.specs.Calls.{Stands, Asks, Answers, in_place, barred, unasked, told, Hears}
use Rattle.machine.proofs.Facts.{facts}
use Rattle.machine.proofs.Meets.{alike}
use Rattle.due.proofs.Laws.{switches, switches_not, names_one, drop-next, none_due, first_due}
use Rattle.machine.proofs.Owing.{unowed, due_known}
use Rattle.machine.proofs.Questions.{later, named_place, calls_below, no_tick_lem, order_asked, first_asked, none_asked, report_asked}
use Rattle.machine.proofs.Unbroken.{none_broken}

-- the outcome by the first No
stepped : (p : plan.Plan) (st : state.State) (r : records.Record) {o : Option ℕ} → broken p st r ≡ o → step p st r ≡ outcome o (effect p r st)
unfolding step
stepped p st r e = ap (λ (o : Option ℕ). outcome o (effect p r st)) e

-- a record moves as in the model, or its rule is answered
module _ {after c : Reporting} {r : records.Record} (a : Answers after c r) where
  pub answers_moved : after.rule ≡ 0 → step (plan_of c.machine) (shown c) r ≡ moved (shown after)
  answers_moved e = sym a.outcome ∙ ap (λ b. cond b (moved (shown after)) (broke after.rule)) (eq-eqb after.rule 0 e)

  pub answers_broke : after.rule ≢ 0 → step (plan_of c.machine) (shown c) r ≡ broke after.rule
  answers_broke d = sym a.outcome ∙ ap (λ b. cond b (moved (shown after)) (broke after.rule)) (ne_eqb after.rule 0 d)

-- a number other than 0 is that of a broken rule
some_rule : (o : Option ℕ) (rule : ℕ) → rule ≡ rule_number o → rule ≢ 0 → o ≡ some rule
some_rule none rule e d = absurd (d e)
some_rule (some n) rule e d = ap {B = Option ℕ} some (sym e)

pub barred_stands : {c : Reporting} → Stands c → (rule : ℕ) → Stands (barred c rule)
barred_stands s n = record { keeps = s.keeps; apart' = record { apart = s.apart'.apart }; quiet' = s.quiet' }

module _ (c : Reporting) {r : records.Record} where
  -- a broken rule
  pub breaks : (after : Reporting) → after.machine.plan ≡ c.machine.plan → shown after ≡ shown c → after.rule ≡ rule_number (broken (plan_of c.machine) (shown c) r) → after.rule ≢ 0 → Stands after → Answers after c r
  breaks after q v e d s =
      let p = plan_of c.machine in
      record {
        outcome = ap (λ b. cond b (moved (shown after)) (broke after.rule)) (ne_eqb after.rule 0 d) ∙ sym (stepped p (shown c) r (some_rule (broken p (shown c) r) after.rule e d));
        plan' = q;
        stays = λ k. v;
        stands' = s;
      }

  -- no broken rule
  pub moves : (after : Reporting) → after.machine.plan ≡ c.machine.plan → rule_number (broken (plan_of c.machine) (shown c) r) ≡ 0 → after.rule ≡ 0 → shown after ≡ effect (plan_of c.machine) r (shown c) → Stands after → Answers after c r
  moves after q z k v s =
      let p = plan_of c.machine in
      record {
        outcome = ap (λ b. cond b (moved (shown after)) (broke after.rule)) (eq-eqb after.rule 0 k) ∙ ap moved v ∙ sym (stepped p (shown c) r (none_broken p (shown c) r z));
        plan' = q;
        stays = λ d. absurd (d k);
        stands' = s;
      }

module _ {c : Reporting} {r : records.Record} (a : Asks c r) where
  -- a rule that the record breaks, and nothing else changed
  bars : (rule : ℕ) → rule ≡ rule_number (broken (plan_of c.machine) (shown c) r) → rule ≢ 0 → Answers (barred c rule) c r
  bars rule e d = breaks c (barred c rule) refl refl e d (barred_stands a.stands rule)

  few : plan.threads (plan_of c.machine) ≤ 16
  few = omega (arith, threads_view c.machine.plan, (facts (unowed c.machine (report_at c) c.due c.given a.formed')).fits.threads)

  -- in its place, what is asked stands behind 31
  in_order_lem : T (in_order (shown c).timers.arming r) → broken (plan_of c.machine) (shown c) r ≡ first_no (later_questions (plan_of c.machine) (shown c) r)
  in_order_lem o =
      let p = plan_of c.machine in
      let st = shown c in
      order_asked p st r ∙ ap (λ b. cond b (first_no (later_questions p st r)) (some 31)) (is_true (in_order st.timers.arming r) o)

  -- 28
  pub unasked_answers : T (in_order (shown c).timers.arming r) → c.due ≤ c.given → (g : records.Report) → r ≡ report g → Answers (unasked c) c r
  unasked_answers o h g e =
      bars 28
      (none_asked (plan_of c.machine) (shown c) g (none_due (report_at c) c.due c.given h)
      ∙ sym (ap rule_number (in_order_lem o ∙ ap (λ (x : records.Record). first_no (later_questions (plan_of c.machine) (shown c) x)) e)))
      (λ z. omega arith)

  -- 31
  out_of_place : T (not (in_order (shown c).timers.arming r)) → Answers (barred c 31) c r
  out_of_place o =
      let p = plan_of c.machine in
      let st = shown c in
      bars 31
      (sym (ap rule_number (order_asked p st r ∙ ap (λ b. cond b (first_no (later_questions p st r)) (some 31)) (is_false (in_order st.timers.arming r) o))))
      (λ z. omega arith)

  module _ (h : c.given < c.due) (o : T (in_order (shown c).timers.arming r)) where
    abbrev first : Report
    first = report_at c c.given

    -- 21
    call_due : (k : Call) → is_tick k ≡ false → r ≡ call k → Answers (barred c 21) c r
    call_due k n e =
        let p = plan_of c.machine in
        let st = shown c in
        bars 21
        (sym (ap rule_number
        (in_order_lem o
        ∙ ap (λ (x : records.Record). first_no (later_questions p st x)) e
        ∙ first_asked p st k
        ∙ ap₂ (λ (b : Bool) (l : List records.Report). cond (b || is_empty l) (first_no (later p st k)) (some 21)) n (first_due (report_at c) c.due c.given h))))
        (λ z. omega arith)

    module _ (g : Report) (kind : IsReport g) (e : r ≡ report (report_of g)) where
      -- 29 and 30
      compared : due_rule first g.kind g.operand ≡ rule_number (broken (plan_of c.machine) (shown c) r)
      compared =
          report_asked (plan_of c.machine) (shown c) first g (drop (suc c.given) (listed (report_at c) c.due))
          (due_known c.machine (report_at c) c.due c.given a.formed' c.given (omega arith) h) kind (first_due (report_at c) c.due c.given h)
          ∙ sym (ap rule_number (in_order_lem o ∙ ap (λ (x : records.Record). first_no (later_questions (plan_of c.machine) (shown c) x)) e))

      -- the thread that is then reported
      abbrev reported : ℕ
      reported = cond (eqb g.kind 17) (g.operand % 256) c.machine.reported

      switched : thread_of reported ≡ state.switched_to (thread_of c.machine.reported) (report_of g)
      switched = go (equal? g.kind 17)
        where
          go : (g.kind ≡ 17) ⊎ (g.kind ≢ 17) → thread_of reported ≡ state.switched_to (thread_of c.machine.reported) (report_of g)
          go (inl q) =
              ap (λ b. thread_of (cond b (g.operand % 256) c.machine.reported)) (eq-eqb g.kind 17 q)
              ∙ names_one g (plan_of c.machine) few (subst (λ (x : records.Record). T (records.allowed (plan_of c.machine) x)) e a.allowed') q
              ∙ sym (switches g (thread_of c.machine.reported) q)
          go (inr d) = ap (λ b. thread_of (cond b (g.operand % 256) c.machine.reported)) (ne_eqb g.kind 17 d) ∙ sym (switches_not g (thread_of c.machine.reported) d)

      delivered : shown (told c reported) ≡ deliver (report_of g) (shown c)
      delivered = alike refl refl refl refl refl refl switched (drop-next c.given (listed (report_at c) c.due)) refl

      told_answers : due_rule first g.kind g.operand ≡ 0 → Answers (told c reported) c r
      told_answers z =
          let p = plan_of c.machine in
          moves c (told c reported) refl (sym compared ∙ z) refl (delivered ∙ ap (λ (x : records.Record). effect p x (shown c)) (sym e))
          (record {
            keeps = a.stands.keeps;
            apart' = record { apart = a.stands.apart'.apart };
            quiet' = a.stands.quiet';
          })

  -- a record that is heard, where it stands in its place something is due and it is no Tick
  module _ {kind operand : ℕ} {x : Reporting} (t : Hears x c kind operand) (due : T (in_place c.machine kind) → (kind ≢ 7) × (c.given < c.due)) where
    barred_as : {rule : ℕ} → x.rule ≡ rule → rule ≢ 0 → Answers (barred c rule) c r → Answers x c r
    barred_as e d w = subst (λ (y : Reporting). Answers y c r) (sym (t.barred' (λ z. d (sym e ∙ z)) ∙ ap (barred c) e)) w

    ruled : {b : Bool} → in_place c.machine kind ≡ b → x.rule ≡ cond b (due_rule (report_at c c.given) kind operand) 31
    ruled e = t.rule' ∙ ap (λ b. cond b (due_rule (report_at c c.given) kind operand) 31) e

    -- by its place: outside it, or in it
    by_place : place r ≡ kind_place kind → (kind ≢ 7 → c.given < c.due → T (in_order (shown c).timers.arming r) → x.rule ≡ due_rule (report_at c c.given) kind operand → Answers x c r) → Answers x c r
    by_place e f = go (split (in_place c.machine kind))
      where
        go : T (in_place c.machine kind) ⊎ T (not (in_place c.machine kind)) → Answers x c r
        go (inl o) = f (due o).0 (due o).1 (rw e o) (ruled (is_true (in_place c.machine kind) o))
        go (inr o) = barred_as (ruled (is_false (in_place c.machine kind) o)) (λ z. omega arith) (out_of_place (rw e o))

    pub heard_answers : Named kind operand r → Answers x c r
    heard_answers (inl k) =
        by_place (named_place {n = operand} (inl k))
        (λ n h o is.
        barred_as
        (is ∙ ap (λ b. cond b 21 (cond (eqb (first h o).kind kind) (cond (eqb (first h o).operand operand) 0 30) 29)) (lt-ltb kind 16 (omega (arith, k.2, calls_below k.0))))
        (λ z. omega arith) (call_due h o k.0 (no_tick_lem k.0 (λ z. n (sym k.2 ∙ z))) k.1))
    heard_answers (inr k) = by_place (named_place {n = operand} (inr k)) (λ n h o is. go h o is (equal? x.rule 0))
      where
        g : Report
        g = record { kind = kind; spare = 0; operand = operand }

        go : (h : c.given < c.due) (o : T (in_order (shown c).timers.arming r)) → x.rule ≡ due_rule (report_at c c.given) kind operand → (x.rule ≡ 0) ⊎ (x.rule ≢ 0) → Answers x c r
        go h o is (inl z) = subst (λ (y : Reporting). Answers y c r) (sym (t.given' z)) (told_answers h o g k.0 k.1 (sym is ∙ z))
        go h o is (inr d) = subst (λ (y : Reporting). Answers y c r) (sym (t.barred' d)) (bars x.rule (is ∙ compared h o g k.0 k.1) d)
