-- A walk over records, turn by turn: what its loop keeps, that every record on the way may be asked about, and that it ends where the run does.
use mathlib.Core.Path.{◌≡◌, refl, ap, sym, subst, ◌∙◌}
use mathlib.Core.Logic.{◌⊎◌, inl, inr, ◌≢◌}
use mathlib.Core.Bool.{Bool, true, false, cond, not, ◌&&◌, ◌||◌, true≢false}
use mathlib.Core.List.{List, [], ◌∷◌, map}
use Prim.Native.Nat.{ℕ, suc, ◌+◌, ◌-◌, ◌≤◌, ◌<◌}
use native.Mathlib.Numerals.{add-one}
use native.Mathlib.Omega.{arith}
use borrow.Author.Tests.{eq-eqb, ne_eqb, ltb-true, ltb-false}
use lib.Dec.{T, eqb, ltb}
use lib.ListN.{length}
use Rattle.std.specs.Prelude.{Option, Some, Result, Ok, is_ok}
use Rattle.model.specs.Plan as model
use Rattle.model.specs.Records as records
use Rattle.model.specs.State as state
use Rattle.model.specs.Runs.{Outcome, moved, broke, step, Verdict, clean, breach, run}
use Rattle.model.specs.Formed.{last_tick, formed}
use Rattle.model.proofs.Laws.{run_ended, run_moved, run_broke, Reached, next, tick_at_most, broken_rule, reached_formed}
use Rattle.model.proofs.Loops.{left, turn, done}
use Rattle.model.proofs.Tests.{equal?}
use Rattle.plan.specs.View as plans
use Rattle.plan.specs.declared.Plan.{Plan}
use Rattle.plan.proofs.Laws.{threads_view, valid_fits}
use Rattle.machine.specs.declared.Machine.{Machine}
use Rattle.machine.specs.declared.rules.Rule.{Rule}
use Rattle.machine.specs.declared.rules.Rule.TheVariants.{ReportDue, NobodyRuns, NotDormant, HoldsSection, NotNeeded, HeldAlready, NotTakenLast, NoneDue, OtherKind, OtherOperand, ArmingOrder, NotArmed}
use Rattle.machine.specs.declared.state.State.{State}
use Rattle.machine.specs.declared.reporting.Reporting.{Reporting}
use Rattle.machine.specs.View.{plan_of, view, shown}
use Rattle.machine.specs.Rules.{number_of, rule_numbered, answer_number}
use Rattle.machine.specs.Kept.{kept}
use Rattle.machine.specs.Clauses.{Ceilings, opened}
use Rattle.machine.specs.Calls.{Stands, Asks, Answers, Closes}
use Rattle.machine.proofs.Laws.{ceilings_of, opened_shown, opened_stands, err_of, answers_moved, answers_broke}
use Rattle.dump.specs.Layout.{record_count, kind_at, operand_at, record_of, record_at, part, kind_of}
use Rattle.dump.specs.Questions.{operand_fits}
use Rattle.dump.proofs.Laws.{fits_kind, kind_back, allowed_back, wider}
use Rattle.walk.specs.Clauses.{ends, Runs, Lent, Walks, answer_of, WalkEnds}

-- the verdict of a run whose first record has number i, and the state in which it ends
abbrev finish : model.Plan → ℕ → List records.Record → state.State → Verdict × state.State
finish p i rs st = (run p i rs st, ends p rs st)

finish_ended : (p : model.Plan) (i : ℕ) (st : state.State) → finish p i [] st ≡ (clean i (length st.due), st)
unfolding ends
finish_ended p i st = rw (run_ended p i st)

module _ (p : model.Plan) (i : ℕ) (r : records.Record) (rs : List records.Record) (st : state.State) where
  abbrev onward : Outcome → state.State
  onward o = elim o as (λ (x : Outcome). state.State) [ moved st' ↦ ends p rs st' | broke n ↦ st ]

  ends_by : (o : Outcome) → step p st r ≡ o → ends p (r ∷ rs) st ≡ onward o
  unfolding ends
  ends_by o e = ap onward e

  finish_moved : (st' : state.State) → step p st r ≡ moved st' → finish p i (r ∷ rs) st ≡ finish p (suc i) rs st'
  finish_moved st' e = rw (run_moved p i r rs st st' e, ends_by (moved st') e)

  finish_broke : (n : ℕ) → step p st r ≡ broke n → finish p i (r ∷ rs) st ≡ (breach i n, st)
  finish_broke n e = rw (run_broke p i r rs st n e, ends_by (broke n) e)

-- a number that rules have is the number of the rule that is answered
answer_back : (n : ℕ) → 21 ≤ n → n ≤ 32 → answer_number (answer_of (rule_numbered n)) ≡ n
answer_back n l h =
    by_one 21 ReportDue refl _
    (λ a. by_one 22 NobodyRuns refl _
    (λ b. by_one 23 NotDormant refl _
    (λ c. by_one 24 HoldsSection refl _
    (λ d. by_one 25 NotNeeded refl _
    (λ e. by_one 26 HeldAlready refl _
    (λ f. by_one 27 NotTakenLast refl _
    (λ g. by_one 28 NoneDue refl _
    (λ i. by_one 29 OtherKind refl _
    (λ j. by_one 30 OtherOperand refl _
    (λ k. by_one 31 ArmingOrder refl _
    (λ m. by_one 32 NotArmed refl _ (λ o. absurd (omega (arith, l, h, a, b, c, d, e, f, g, i, j, k, m, o))))))))))))))
  where
    by_one : (k : ℕ) (r : Rule) → number_of r ≡ k → (rest : Option Rule) → (n ≢ k → answer_number (answer_of rest) ≡ n) → answer_number (answer_of (cond (eqb n k) (Some r) rest)) ≡ n
    by_one k r e rest f = go (equal? n k)
      where
        go : (n ≡ k) ⊎ (n ≢ k) → answer_number (answer_of (cond (eqb n k) (Some r) rest)) ≡ n
        go (inl q) = ap (λ b. answer_number (answer_of (cond b (Some r) rest))) (eq-eqb n k q) ∙ e ∙ sym q
        go (inr d) = ap (λ b. answer_number (answer_of (cond b (Some r) rest))) (ne_eqb n k d) ∙ f d

-- Before record i of a walk, under a plan and from a state: the records left lead from here where all of them lead from there.
pub record Walking (plan : Plan) (st : state.State) (bytes : List ℕ) (from to : ℕ) (c : Reporting) (i : ℕ) : Type 0 where
  pub plan' : c.machine.plan ≡ plan
  pub leads : finish (plan_of c.machine) i (map (record_at bytes) (left i to)) (shown c) ≡ finish (plans.view plan) from (part bytes from to) st
  pub stands : Stands c
  pub onward' : from ≤ i
  pub kept : i ≡ from → shown c ≡ st
  -- a lent state has one record: what is known of it is known before that record, where `kept` says that it is here
  pub safe : Runs (plan_of c.machine) (shown c) (to - i) ⊎ Lent (plans.view plan) st bytes from to

-- what a record that is heard, or not, tells

pub heard_due : (kind given due : ℕ) (b : Bool) → not (eqb kind 7) && ltb given due || not b ≡ true → T b → (kind ≢ 7) × (given < due)
heard_due kind given due b e o = let r = go (eqb kind 7) (ltb given due) b e o in (λ z. true≢false (sym (eq-eqb kind 7 z) ∙ r.0), ltb-true given due r.1)
  where
    go : (t a b : Bool) → not t && a || not b ≡ true → T b → (t ≡ false) × (a ≡ true)
    go true a true e o = absurd (true≢false (sym e))
    go true a false e o = absurd o
    go false true b e o = (refl, refl)
    go false false true e o = absurd (true≢false (sym e))
    go false false false e o = absurd o

pub not_heard : (kind given due : ℕ) (b : Bool) → not (eqb kind 7) && ltb given due || not b ≡ false → (kind ≢ 7 → due ≤ given) × T b
not_heard kind given due b e = let r = go (eqb kind 7) (ltb given due) b e in (λ d. ltb-false given due (r.0 (ne_eqb kind 7 d)), r.1)
  where
    go : (t a b : Bool) → not t && a || not b ≡ false → (t ≡ false → a ≡ false) × T b
    go true a true e = (λ z. absurd (true≢false z), tt)
    go true a false e = absurd (true≢false e)
    go false true b e = absurd (true≢false e)
    go false false true e = (λ z. refl, tt)
    go false false false e = absurd (true≢false e)

-- record i, by its two numbers
pub walk_record : (bytes : List ℕ) (i : ℕ) {kind operand : ℕ} → (kind ≡ kind_at bytes i) × (operand ≡ operand_at bytes i) → record_of kind operand ≡ record_at bytes i
walk_record bytes i o = rw (o.0, o.1)

-- of the state that came, and of that state opened: the same walk

same : {s : State} {o : Reporting} → o ≡ opened s → o.machine.plan ≡ s.machine.plan
same e = ap (λ (x : Reporting). x.machine.plan) e

module _ (s : State) {o : Reporting} (e : o ≡ opened s) {bytes : List ℕ} {from to : ℕ} {c : Reporting} {i : ℕ} where
  pub as_came : Walking o.machine.plan (shown o) bytes from to c i → Walking s.machine.plan (view s) bytes from to c i
  as_came w = subst (λ (st : state.State). Walking s.machine.plan st bytes from to c i) (ap shown e ∙ opened_shown s) (subst (λ (p : Plan). Walking p (shown o) bytes from to c i) (same e) w)

  pub as_opened : Walking s.machine.plan (view s) bytes from to c i → Walking o.machine.plan (shown o) bytes from to c i
  as_opened w = subst (λ (p : Plan). Walking p (shown o) bytes from to c i) (sym (same e)) (subst (λ (st : state.State). Walking s.machine.plan st bytes from to c i) (sym (ap shown e ∙ opened_shown s)) w)

module _ {first : State} {ceilings : List ℕ} {bytes : List ℕ} {from to : ℕ} (a : Walks first ceilings bytes from to) where
  pub walk_begins : {c : Reporting} → c ≡ opened first → Walking first.machine.plan (view first) bytes from to c from
  walk_begins e = subst (λ (c : Reporting). Walking first.machine.plan (view first) bytes from to c from) (sym e)
      (record {
        plan' = refl;
        leads = ap (finish (plan_of first.machine) from (part bytes from to)) (opened_shown first);
        stands = opened_stands first a.keeps;
        onward' = omega arith;
        kept = λ z. opened_shown first;
        safe = go a.safe;
      })
    where
      p : model.Plan
      p = plan_of first.machine

      go : Runs p (view first) (to - from) ⊎ Lent p (view first) bytes from to → Runs p (shown (opened first)) (to - from) ⊎ Lent p (view first) bytes from to
      go (inl r) = inl (subst (λ (st : state.State). Runs p st (to - from)) (sym (opened_shown first)) r)
      go (inr l) = inr l

  module _ {c : Reporting} {i : ℕ} (w : Walking first.machine.plan (view first) bytes from to c i) where
    same_plan : plan_of c.machine ≡ plan_of first.machine
    same_plan = ap plans.view w.plan'

    -- where the walk ends, with its verdict: here, or at the record that breaks a rule
    ended : {after : Reporting} {s : State} {at : ℕ} {rule : Result Unit Rule} → after.machine.plan ≡ first.machine.plan → Stands after → Closes s after
        → (cond (is_ok rule) (clean at (length (shown after).due)) (breach at (answer_number rule)), shown after) ≡ finish (plan_of first.machine) from (part bytes from to) (view first)
        → WalkEnds (record { state = s; at = at; rule = rule }) first bytes from to
    ended {after} {s} {at} {rule} q t k z =
        record {
          plan' = ap (λ (m : Machine). m.plan) k.machine' ∙ q;
          verdict = ap (λ (x : state.State). cond (is_ok rule) (clean at (length x.due)) (breach at (answer_number rule))) k.seen ∙ ap (λ f. f.0) z;
          state' = k.seen ∙ ap (λ f. f.1) z;
          keeps = subst (λ (m : Machine). T (kept m)) (sym k.machine') t.keeps;
        }

    -- behind the last record
    pub walk_ends : to ≤ i → {s : State} → Closes s c → WalkEnds (record { state = s; at = i; rule = Ok tt }) first bytes from to
    walk_ends h k =
        ended {rule = Ok tt} w.plan' w.stands k
        (sym (finish_ended (plan_of c.machine) i (shown c))
        ∙ sym (done (λ l. finish (plan_of c.machine) i (map (record_at bytes) l) (shown c)) to i h)
        ∙ w.leads)

    -- the ceilings are still those of its plan
    pub walk_ceilings : Ceilings c.machine ceilings
    walk_ceilings = ceilings_of c.machine first.machine.plan ceilings w.plan' a.ceilings'

    -- at record i
    module _ (h : i < to) where
      -- it may be read
      pub walk_within : i < record_count bytes
      walk_within = omega (arith, h, a.within)

      valid : T (model.valid_plan (plan_of c.machine))
      valid = subst (λ (q : Plan). T (model.valid_plan (plans.view q))) (sym w.plan') a.valid

      fits : T (operand_fits c.machine.plan.threads c.machine.plan.sections (kind_at bytes i) (operand_at bytes i))
      fits = subst (λ (q : Plan). T (operand_fits q.threads q.sections (kind_at bytes i) (operand_at bytes i))) (sym w.plan') (a.operands i w.onward' h)

      allowed : T (records.allowed (plan_of c.machine) (record_at bytes i))
      allowed = allowed_back (plan_of c.machine) (kind_at bytes i) (operand_at bytes i) (rw (threads_view c.machine.plan) fits)

      -- the first record of a lent state is its only one
      lent_here : Lent (plan_of first.machine) (view first) bytes from to → i ≡ from
      lent_here l = omega (arith, h, w.onward', l.single)

      -- a state on the way is well formed, and has room for its Tick
      formed_here : T (formed (plan_of c.machine) (shown c))
      formed_here = go w.safe
        where
          go : Runs (plan_of c.machine) (shown c) (to - i) ⊎ Lent (plan_of first.machine) (view first) bytes from to → T (formed (plan_of c.machine) (shown c))
          go (inl r) = reached_formed (plan_of c.machine) valid (shown c) r.reached (omega (arith, r.room))
          go (inr l) = subst (λ (p : model.Plan). T (formed p (shown c))) (sym same_plan) (subst (λ (st : state.State). T (formed (plan_of first.machine) st)) (sym (w.kept (lent_here l))) l.formed')

      room_here : kind_at bytes i ≡ 7 → c.machine.tick.0 < last_tick
      room_here k = go w.safe
        where
          go : Runs (plan_of c.machine) (shown c) (to - i) ⊎ Lent (plan_of first.machine) (view first) bytes from to → c.machine.tick.0 < last_tick
          go (inl r) = omega (arith, r.room, h)
          go (inr l) =
              let z = lent_here l in
              omega (arith, l.room (ap (kind_at bytes) (sym z) ∙ k), ap (λ (st : state.State). st.tick_number) (w.kept z))

      -- its two numbers are those of a record that the machine can read
      pub walk_reads : {kind operand : ℕ} → (kind ≡ kind_at bytes i) × (operand ≡ operand_at bytes i) → T (operand_fits 16 16 kind operand)
      walk_reads o =
          let f = valid_fits c.machine.plan valid in
          rw (o.0, o.1) (wider c.machine.plan.threads c.machine.plan.sections 16 16 (kind_at bytes i) (operand_at bytes i) f.threads f.sections fits)

      -- and the machine may be asked about it
      pub walk_asks : Asks c (record_at bytes i)
      walk_asks =
          record {
            formed' = formed_here;
            stands = w.stands;
            allowed' = allowed;
            tick' = λ t. room_here (sym (kind_back (kind_at bytes i) (operand_at bytes i) (fits_kind _ _ (kind_at bytes i) (operand_at bytes i) fits)) ∙ ap kind_of t);
          }

      module _ {after : Reporting} (b : Answers after c (record_at bytes i)) where
        turned : finish (plan_of c.machine) i (record_at bytes i ∷ map (record_at bytes) (left (i + 1) to)) (shown c) ≡ finish (plan_of first.machine) from (part bytes from to) (view first)
        turned = sym (turn (λ l. finish (plan_of c.machine) i (map (record_at bytes) l) (shown c)) to i h) ∙ w.leads

        -- the record breaks a rule
        pub walk_breaks : after.rule ≢ 0 → {s : State} → Closes s after → WalkEnds (record { state = s; at = i; rule = answer_of (rule_numbered after.rule) }) first bytes from to
        walk_breaks d k =
            let rule = answer_of (rule_numbered after.rule) in
            let q = answers_broke b d in
            let known = broken_rule (plan_of c.machine) (shown c) (record_at bytes i) after.rule q in
            let back : answer_number rule ≡ after.rule = answer_back after.rule known.0 known.1 in
            ended {rule = rule} (b.plan' ∙ w.plan') b.stands' k
            (ap (λ x. (cond x (clean i (length (shown after).due)) (breach i (answer_number rule)), shown after)) (err_of rule (λ z. d (sym back ∙ z)))
            ∙ ap (λ (n : ℕ). (breach i n, shown after)) back
            ∙ ap (λ (st : state.State). (breach i after.rule, st)) (b.stays d)
            ∙ sym (finish_broke (plan_of c.machine) i (record_at bytes i) (map (record_at bytes) (left (i + 1) to)) (shown c) after.rule q) ∙ turned)

        -- the record moves the machine
        pub walk_moves : after.rule ≡ 0 → Walking first.machine.plan (view first) bytes from to after (i + 1)
        walk_moves k =
            record {
              plan' = b.plan' ∙ w.plan';
              leads = ap (λ (p : model.Plan). finish p (i + 1) rest (shown after)) plan_same ∙ ap (λ j. finish (plan_of c.machine) j rest (shown after)) (add-one i)
                  ∙ sym (finish_moved (plan_of c.machine) i (record_at bytes i) rest (shown c) (shown after) moves_it) ∙ turned;
              stands = b.stands';
              onward' = omega (arith, w.onward');
              kept = λ z. absurd (omega (arith, w.onward'));
              safe = go w.safe;
            }
          where
            rest : List records.Record
            rest = map (record_at bytes) (left (i + 1) to)

            plan_same : plan_of after.machine ≡ plan_of c.machine
            plan_same = ap plans.view b.plan'

            moves_it : step (plan_of c.machine) (shown c) (record_at bytes i) ≡ moved (shown after)
            moves_it = answers_moved b k

            go : Runs (plan_of c.machine) (shown c) (to - i) ⊎ Lent (plan_of first.machine) (view first) bytes from to → Runs (plan_of after.machine) (shown after) (to - (i + 1)) ⊎ Lent (plan_of first.machine) (view first) bytes from to
            go (inl r) =
                inl (record {
                  reached = subst (λ (p : model.Plan). Reached p (shown after)) (sym plan_same) (next (record_at bytes i) r.reached allowed moves_it);
                  room = omega (arith, r.room, h, tick_at_most (plan_of c.machine) (shown c) r.reached (record_at bytes i) (shown after) moves_it);
                })
            go (inr l) = inr l
