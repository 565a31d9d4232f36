-- The watch state, and what a live step answers and leaves.
use Rattle.std.specs.Prelude.{Bool, false, cond, not, ◌&&◌, ◌||◌, List, [], ◌∷◌, ℕ, eqb, length}
use Rattle.std.proofs.Math.Option.{Option, none, some}
use Rattle.model.specs.Plan.{Plan, threads}
use Rattle.model.specs.Records.{Record}
use Rattle.model.specs.State.{State, start}
use Rattle.model.specs.Rules.{Question, ◌asks◌, first_no}
use Rattle.model.specs.Runs.{Outcome, moved, broke, step}
use Rattle.model.specs.Formed.{last_tick, formed}
use Rattle.keeping.specs.Top.{Top, top_fits, set_by}
use Rattle.plan.specs.Bytes as plans
use Rattle.plan.specs.Bytes.{between}
use Rattle.dump.specs.Layout.{record_of}
use Rattle.dump.specs.Questions.{kind_allowed, operand_fits}

-- a plan, the machine's state, the owner and the greatest held ceiling kept beside it, and the rule of a breach that is stored, 0 if there is none
pub record Watched : Type 0 where
  pub plan : Plan
  pub state : State
  pub top : Top
  pub rule : ℕ

-- A state is made from a plan that passes 1 to 4, and carries it. Of another plan there is the refusal alone: the state beside it carries a
-- plan without threads, so that every step on it answers 12.

abbrev pub fresh : Plan → Watched
fresh p = record { plan = p; state = start p; top = record { owner = none; ceiling = 0 }; rule = 0 }

abbrev pub no_plan : Plan
no_plan = record { sections = 0; bases = []; needs = [] }

abbrev pub plan_unless : Option ℕ → Plan → Plan
plan_unless none p = p
plan_unless (some n) p = no_plan

unfoldable pub begin : (plan : List ℕ) → Watched
begin plan = fresh (plan_unless (plans.refusal plan) (plans.plan_of plan))

-- A step answers clean with the number due, or the broken rule; or the number of a question with the answer No.
pub data Reply : Type 0 where
  refused : (number : ℕ) → Reply
  clean : (due : ℕ) → Reply
  broken : (rule : ℕ) → Reply

-- a stored rule is one of the papers', or none
abbrev pub is_rule : ℕ → Bool
is_rule n = eqb n 0 || between 21 32 n

-- 7 and 8: kind and operand. 13, asked after 8: is it no Tick at the last tick number?
abbrev pub record_questions : Watched → (kind operand : ℕ) → List Question
record_questions w k n =
    7 asks kind_allowed false k
    ∷ 8 asks operand_fits (threads w.plan) w.plan.sections k n
    ∷ 13 asks not (eqb k 7 && eqb w.state.tick_number last_tick)
    ∷ []

-- 12, asked before 7: is the lent state well formed, and what it keeps the walk's result?
abbrev pub questions : Watched → (kind operand : ℕ) → List Question
questions w k n = 12 asks (formed w.plan w.state && top_fits w.plan w.state.holds w.top && is_rule w.rule) ∷ record_questions w k n

unfoldable pub refusal : Watched → (kind operand : ℕ) → Option ℕ
refusal w k n = first_no (questions w k n)

abbrev pub outcome_of : Watched → (kind operand : ℕ) → Outcome
outcome_of w k n = step w.plan w.state (record_of k n)

abbrev pub reply_of : Outcome → Reply
reply_of (moved st) = clean (length st.due)
reply_of (broke r) = broken r

-- Each call that moves a hold sets what is kept. A breach changes nothing in the state but to be stored there.
abbrev pub stored : Watched → Record → Outcome → Watched
stored w r (moved st) = record { plan = w.plan; state = st; top = set_by w.plan r w.state w.top; rule = w.rule }
stored w r (broke n) = record { plan = w.plan; state = w.state; top = w.top; rule = n }

abbrev pub reply_unless : Option ℕ → Reply → Reply
reply_unless none r = r
reply_unless (some q) r = refused q

abbrev pub watched_unless : {A : Type 0} → Option ℕ → A → A → A
watched_unless none a w = a
watched_unless (some q) a w = w

-- Every later step that 12, 7, 8 and 13 let pass answers the stored breach.
unfoldable pub reply : Watched → (kind operand : ℕ) → Reply
reply w k n = reply_unless (refusal w k n) (cond (eqb w.rule 0) (reply_of (outcome_of w k n)) (broken w.rule))

-- the watch state after it: as it came in where the answer is 12, 7, 8, 13 or a stored breach
unfoldable pub after : Watched → (kind operand : ℕ) → Watched
after w k n = watched_unless (refusal w k n) (cond (eqb w.rule 0) (stored w (record_of k n) (outcome_of w k n)) w) w
