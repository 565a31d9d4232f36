-- A walk over one record: what it asks, and that it answers what a step of the model does.
use mathlib.Core.Path.{◌≡◌, refl, ap, sym, subst, ◌∙◌}
use mathlib.Core.Logic.{inr}
use mathlib.Core.Bool.{Bool, true, false, cond}
use mathlib.Core.List.{List, [], ◌∷◌, map}
use Prim.Native.Nat.{ℕ, suc, ◌+◌, ◌-◌}
use native.Mathlib.Omega.{arith}
use lib.Dec.{T}
use lib.ListN.{length}
use Rattle.std.specs.Prelude.{Result, is_ok}
use Rattle.model.specs.Searches.{count_from}
use Rattle.model.specs.Plan.{Plan}
use Rattle.model.specs.Records.{Record}
use Rattle.model.specs.State as state
use Rattle.model.specs.Runs.{Outcome, moved, broke, step, Verdict, clean, breach, run}
use Rattle.model.proofs.Laws.{run_ended, run_moved, run_broke}
use Rattle.machine.specs.declared.state.State.{State}
use Rattle.machine.specs.declared.rules.Rule.{Rule}
use Rattle.machine.specs.View.{plan_of, view}
use Rattle.machine.specs.Rules.{answer_number}
use Rattle.machine.proofs.Laws.{formed_facts}
use Rattle.dump.specs.Layout.{kind_at, operand_at, record_at, part}
use Rattle.dump.specs.Questions.{operand_fits}
use Rattle.walk.specs.declared.walk.Walked.{Walked}
use Rattle.walk.specs.Clauses.{ends, Walks, WalkEnds, Single, Advances}

-- the part of one record
one_part : (bytes : List ℕ) (i : ℕ) → part bytes i (i + 1) ≡ record_at bytes i ∷ []
one_part bytes i = let z : (i + 1) - i ≡ 1 = omega arith in ap (λ n. map (record_at bytes) (count_from i n)) z

-- the record can be walked over
pub single_walks : {s : State} {ceilings : List ℕ} {bytes : List ℕ} {i : ℕ} → Single s ceilings bytes i → Walks s ceilings bytes i (i + 1)
single_walks {s} {bytes = bytes} {i = i} a =
    record {
      valid = (formed_facts s a.formed').standing.valid;
      ceilings' = a.ceilings';
      keeps = a.keeps;
      whole = a.whole;
      within = omega (arith, a.within);
      operands = λ j l h. let z : i ≡ j = omega arith in subst (λ k. T (operand_fits s.machine.plan.threads s.machine.plan.sections (kind_at bytes k) (operand_at bytes k))) z a.operand';
      safe = inr (record { single = refl; formed' = a.formed'; room = a.room });
    }

-- verdicts differ, and a breach tells its record and its rule

clean_breach : {a b c d : ℕ} → clean a b ≡ breach c d → ⊥
clean_breach e = let z : ◌≡◌ {A = ℕ} 0 1 = cc in omega arith

breach_tells : {a b c d : ℕ} → breach a b ≡ breach c d → (a ≡ c) × (b ≡ d)
breach_tells e = (cc, cc)

-- a run over one record, whose number is i
module _ (p : Plan) (i : ℕ) (r : Record) (st : state.State) where
  abbrev ended : Outcome → state.State
  ended o = elim o as (λ (x : Outcome). state.State) [ moved st' ↦ st' | broke m ↦ st ]

  one_ends : (o : Outcome) → step p st r ≡ o → ends p (r ∷ []) st ≡ ended o
  unfolding ends
  one_ends o e = ap ended e

  one_moved : (st' : state.State) → step p st r ≡ moved st' → run p i (r ∷ []) st ≡ clean (suc i) (length st'.due)
  one_moved st' e = run_moved p i r [] st st' e ∙ run_ended p (suc i) st'

-- how a walk over one record ended
module _ {r : Walked} {s : State} (bytes : List ℕ) (i : ℕ) (e : WalkEnds r s bytes i (i + 1)) where
  abbrev p : Plan
  p = plan_of s.machine

  abbrev x : Record
  x = record_at bytes i

  abbrev said : Bool → Verdict
  said b = cond b (clean r.at (length (view r.state).due)) (breach r.at (answer_number r.rule))

  verdict : said (is_ok r.rule) ≡ run p i (x ∷ []) (view s)
  verdict = e.verdict ∙ ap (λ l. run p i l (view s)) (one_part bytes i)

  after : (o : Outcome) → step p (view s) x ≡ o → view r.state ≡ ended p i x (view s) o
  after o q = e.state' ∙ ap (λ l. ends p l (view s)) (one_part bytes i) ∙ one_ends p i x (view s) o q

  walk_broke : is_ok r.rule ≡ false → (step p (view s) x ≡ broke (answer_number r.rule)) × (view r.state ≡ view s)
  walk_broke d = go (step p (view s) x) refl
    where
      breaks : breach r.at (answer_number r.rule) ≡ run p i (x ∷ []) (view s)
      breaks = sym (ap said d) ∙ verdict

      go : (o : Outcome) → step p (view s) x ≡ o → (step p (view s) x ≡ broke (answer_number r.rule)) × (view r.state ≡ view s)
      go (moved st) q = absurd (clean_breach (sym (breaks ∙ one_moved p i x (view s) st q)))
      go (broke m) q = (q ∙ ap broke (sym (breach_tells (breaks ∙ run_broke p i x [] (view s) m q)).1), after (broke m) q)

  walk_moved : is_ok r.rule ≡ true → step p (view s) x ≡ moved (view r.state)
  walk_moved z = go (step p (view s) x) refl
    where
      passes : clean r.at (length (view r.state).due) ≡ run p i (x ∷ []) (view s)
      passes = sym (ap said z) ∙ verdict

      go : (o : Outcome) → step p (view s) x ≡ o → step p (view s) x ≡ moved (view r.state)
      go (moved st) q = q ∙ ap moved (sym (after (moved st) q))
      go (broke m) q = absurd (clean_breach (passes ∙ run_broke p i x [] (view s) m q))

  -- what a step of the model answers
  pub single_answers : Advances r.state r.rule s x
  single_answers = record { outcome = go (is_ok r.rule) refl; plan' = e.plan'; stays = λ d. (walk_broke d).1; keeps = e.keeps }
    where
      go : (b : Bool) → is_ok r.rule ≡ b → cond b (moved (view r.state)) (broke (answer_number r.rule)) ≡ step p (view s) x
      go true z = sym (walk_moved z)
      go false d = sym (walk_broke d).0

-- a step moves as the model's does, or answers its rule
module _ {after : State} {rule : Result Unit Rule} {s : State} {r : Record} (a : Advances after rule s r) where
  pub answers_moved : is_ok rule ≡ true → step (plan_of s.machine) (view s) r ≡ moved (view after)
  answers_moved e = sym a.outcome ∙ ap (λ b. cond b (moved (view after)) (broke (answer_number rule))) e

  pub answers_broke : is_ok rule ≡ false → step (plan_of s.machine) (view s) r ≡ broke (answer_number rule)
  answers_broke d = sym a.outcome ∙ ap (λ b. cond b (moved (view after)) (broke (answer_number rule))) d
