-- For every list of records from the start the owner and the greatest held ceiling that the watch state keeps equal the walk's result, with 0 and nobody
-- when nothing is held.
use mathlib.Core.Path.{◌≡◌, refl, ap, sym, ◌∙◌}
use mathlib.Core.Bool.{Bool, true, false, cond}
use mathlib.Core.List.{List, [], ◌∷◌}
use mathlib.Core.Option.{Option, none, some}
use Prim.Native.Nat.{ℕ}
use lib.Dec.{eqb}
use lib.ListN.{take}
use Rattle.model.specs.Plan.{Plan}
use Rattle.model.specs.Records.{Record}
use Rattle.model.specs.State.{Hold}
use Rattle.model.specs.Runs.{Outcome, moved, broke}
use Rattle.keeping.specs.Top.{walk_by, walk, set_by}
use Rattle.keeping.proofs.Laws.{set-moved}
use Rattle.dump.specs.Layout.{record_of, kind_of, operand_of}
use Rattle.live.specs.Watching.{Watched, fresh, refusal, outcome_of, stored, watched_unless, after}
use Rattle.live.specs.Stepwise.{walked, steps}

module _ (p : Plan) where
  -- a watch state with this plan keeps the walk's result
  record Keeps (w : Watched) : Type 0 where
    plan' : w.plan ≡ p
    top' : w.top ≡ walk p w.state.holds

  -- so it does after a live step on anything at all
  after_keeps : (w : Watched) (kind operand : ℕ) → Keeps w → Keeps (after w kind operand)
  unfolding after
  after_keeps w kind operand k = by_question (refusal w kind operand)
    where
      by_outcome : (o : Outcome) → outcome_of w kind operand ≡ o → Keeps (stored w (record_of kind operand) o)
      by_outcome (moved st) e =
          record {
            plan' = k.plan';
            top' =
                ap (set_by w.plan (record_of kind operand) w.state) (k.top' ∙ ap (λ (q : Plan). walk q w.state.holds) (sym k.plan'))
                ∙ set-moved w.plan w.state (record_of kind operand) st e
                ∙ ap (λ (q : Plan). walk q st.holds) k.plan';
          }
      by_outcome (broke n) e = record { plan' = k.plan'; top' = k.top' }

      by_rule : (b : Bool) → Keeps (cond b (stored w (record_of kind operand) (outcome_of w kind operand)) w)
      by_rule true = by_outcome (outcome_of w kind operand) refl
      by_rule false = k

      by_question : (o : Option ℕ) → Keeps (watched_unless o (cond (eqb w.rule 0) (stored w (record_of kind operand) (outcome_of w kind operand)) w) w)
      by_question none = by_rule (eqb w.rule 0)
      by_question (some q) = k

  walked_keeps : (w : Watched) (rs : List Record) → Keeps w → Keeps (walked w rs)
  walked_keeps w [] k = k
  walked_keeps w (r ∷ rs) k = walked_keeps (after w (kind_of r) (operand_of r)) rs (after_keeps w (kind_of r) (operand_of r) k)

  -- at the start nothing is held
  fresh_keeps : Keeps (fresh p)
  unfolding walk_by
  fresh_keeps = record { plan' = refl; top' = refl }

  module _ (rs : List Record) (i : ℕ) where
    pub kept_is_walk : (steps p rs i).top ≡ walk p (steps p rs i).state.holds
    kept_is_walk = (walked_keeps (fresh p) (take i rs) fresh_keeps).top'

    pub kept_none : (steps p rs i).state.holds ≡ [] → (steps p rs i).top ≡ record { owner = none; ceiling = 0 }
    unfolding walk_by
    kept_none e = kept_is_walk ∙ ap (λ (hs : List Hold). walk p hs) e
