-- What a walk over records asks and answers.
use Rattle.std.specs.Prelude.{◌≡◌, ◌⊎◌, false, cond, List, [], ◌∷◌, ℕ, ◌+◌, ◌-◌, ◌≤◌, ◌<◌, T, length, Option, Some, None, Result, Ok, Err, is_ok}
use Rattle.model.specs.Plan as model
use Rattle.model.specs.Records as records
use Rattle.model.specs.State as state
use Rattle.model.specs.Runs.{clean, breach, moved, broke, step, run}
use Rattle.model.specs.Formed.{last_tick, formed}
use Rattle.model.proofs.Laws.{Reached}
use Rattle.machine.specs.declared.state.State.{State}
use Rattle.machine.specs.declared.rules.Rule.{Rule}
use Rattle.machine.specs.Rules.{answer_number}
use Rattle.machine.specs.View.{plan_of, view}
use Rattle.machine.specs.Kept.{kept}
use Rattle.machine.specs.Clauses.{Ceilings}
use Rattle.dump.specs.Layout.{record_count, kind_at, operand_at, part}
use Rattle.dump.specs.Questions.{operand_fits, Whole}
use Rattle.walk.specs.declared.walk.Walked.{Walked}

-- the state in which a run ends: behind its last record, or before the one that breaks a rule
unfoldable pub ends : model.Plan → List records.Record → state.State → state.State
ends p [] st = st
ends p (r ∷ rs) st = elim (step p st r) [ moved st' ↦ ends p rs st' | broke n ↦ st ]

-- Every state on the way is well formed: those of a run from the start are, since the tick number has room for every record; of a lent one
-- only itself is known, so only one record is walked over.
pub record Runs (p : model.Plan) (st : state.State) (n : ℕ) : Type 0 where
  pub reached : Reached p st
  pub room : st.tick_number + n ≤ last_tick

pub record Lent (p : model.Plan) (st : state.State) (bytes : List ℕ) (from to : ℕ) : Type 0 where
  pub single : to ≡ from + 1
  pub formed' : T (formed p st)
  pub room : kind_at bytes from ≡ 7 → st.tick_number < last_tick

-- what a walk asks: a valid plan with its ceilings, the owner kept, records that questions 5 to 8 let pass
pub record Walks (s : State) (ceilings : List ℕ) (bytes : List ℕ) (from to : ℕ) : Type 0 where
  pub valid : T (model.valid_plan (plan_of s.machine))
  pub ceilings' : Ceilings s.machine ceilings
  pub keeps : T (kept s.machine)
  pub whole : Whole bytes
  pub within : to ≤ record_count bytes
  pub operands : (i : ℕ) → from ≤ i → i < to → T (operand_fits s.machine.plan.threads s.machine.plan.sections (kind_at bytes i) (operand_at bytes i))
  pub safe : Runs (plan_of s.machine) (view s) (to - from) ⊎ Lent (plan_of s.machine) (view s) bytes from to

-- what a record is answered: the rule that it breaks, if any
abbrev pub answer_of : Option Rule → Result Unit Rule
answer_of None = Ok tt
answer_of (Some r) = Err r

-- a walk ends where the run does, with its verdict, and the owner is kept
pub record WalkEnds (r : Walked) (s : State) (bytes : List ℕ) (from to : ℕ) : Type 0 where
  pub plan' : r.state.machine.plan ≡ s.machine.plan
  pub verdict : cond (is_ok r.rule) (clean r.at (length (view r.state).due)) (breach r.at (answer_number r.rule)) ≡ run (plan_of s.machine) from (part bytes from to) (view s)
  pub state' : view r.state ≡ ends (plan_of s.machine) (part bytes from to) (view s)
  pub keeps : T (kept r.state.machine)

-- what one record asks: that questions 5 to 8 let it pass, a well-formed state with its ceilings and the owner kept, and for a Tick room for the tick number to grow
pub record Single (s : State) (ceilings : List ℕ) (bytes : List ℕ) (i : ℕ) : Type 0 where
  pub formed' : T (formed (plan_of s.machine) (view s))
  pub keeps : T (kept s.machine)
  pub ceilings' : Ceilings s.machine ceilings
  pub whole : Whole bytes
  pub within : i < record_count bytes
  pub operand' : T (operand_fits s.machine.plan.threads s.machine.plan.sections (kind_at bytes i) (operand_at bytes i))
  pub room : kind_at bytes i ≡ 7 → (view s).tick_number < last_tick

-- What a step answers of a record: the state after it, and the broken rule, if any. A broken rule leaves the state as it came.
pub record Advances (after : State) (rule : Result Unit Rule) (s : State) (r : records.Record) : Type 0 where
  pub outcome : cond (is_ok rule) (moved (view after)) (broke (answer_number rule)) ≡ step (plan_of s.machine) (view s) r
  pub plan' : after.machine.plan ≡ s.machine.plan
  pub stays : is_ok rule ≡ false → view after ≡ view s
  pub keeps : T (kept after.machine)
