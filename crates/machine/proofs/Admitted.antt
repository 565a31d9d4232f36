-- What is asked of the machine of each call, what its rules say where it breaks none, and what it makes before its Switch.
use mathlib.Core.Path.{◌≡◌, refl, ap, ap₂, sym, subst, ◌∙◌}
use mathlib.Core.Bool.{true, false, true≢false}
use mathlib.Core.List.{[]}
use mathlib.Core.Option.{Option, some}
use Prim.Native.Nat.{ℕ, ◌<◌}
use lib.Dec.{T}
use Rattle.std.specs.Prelude.{Result, is_ok}
use Rattle.model.specs.Plan.{may_take}
use Rattle.model.specs.Records.{Call, call}
use Rattle.model.specs.State as state
use Rattle.model.specs.State.{dormant, condition}
use Rattle.model.specs.Priorities.{chosen}
use Rattle.model.specs.Calls.{perform, by_caller}
use Rattle.model.specs.Rules.{holds_not, last_taken, stage, broken}
use Rattle.model.specs.Formed.{last_tick}
use Rattle.lists.specs.Lists.{numbered}
use Rattle.machine.specs.declared.rules.Rule.{Rule}
use Rattle.machine.specs.declared.Machine.{Machine}
use Rattle.due.specs.declared.reports.Reports.{Reports}
use Rattle.due.specs.Lists.{owed}
use Rattle.machine.specs.View.{plan_of, viewed, idle}
use Rattle.machine.specs.Kept.{kept}
use Rattle.machine.specs.Rules.{rule_number, answer_number}
use Rattle.machine.proofs.Facts.{Formed}

-- What each call asks. The caller is the number of the chosen thread, 255 where there is none; an arming has come to the call's place.

pub record CreateAsked (m : Machine) (thread : ℕ) : Type 0 where
  pub formed : Formed m
  pub ordered : stage (idle m).timers.arming ≡ 0
  pub known : thread < m.plan.threads

pub record Asked (m : Machine) (caller place : ℕ) : Type 0 where
  pub formed : Formed m
  pub caller' : caller ≡ numbered (chosen (plan_of m) (idle m))
  pub ordered : stage (idle m).timers.arming ≡ place

pub record SectionAsked (m : Machine) (caller section : ℕ) : Type 0 where
  pub asked : Asked m caller 0
  pub known : section < m.plan.sections

-- the tick number has room to grow
pub record TickAsked (m : Machine) : Type 0 where
  pub formed : Formed m
  pub ordered : stage (idle m).timers.arming ≡ 0
  pub room : m.tick.0 < last_tick

-- What the rules say.

pub record Creates (m : Machine) (thread : ℕ) : Type 0 where
  pub formed : Formed m
  pub known : thread < m.plan.threads
  pub dormant' : condition (idle m) thread ≡ dormant

-- the caller is the chosen thread
pub record Runs (m : Machine) (caller : ℕ) : Type 0 where
  pub formed : Formed m
  pub chosen' : chosen (plan_of m) (idle m) ≡ some caller

-- rules 25 and 26
pub record Takes (m : Machine) (caller section : ℕ) : Type 0 where
  pub runs : Runs m caller
  pub known : section < m.plan.sections
  pub needs : T (may_take (plan_of m) caller section)
  pub lacks : T (holds_not (idle m).holds section caller)

-- rule 27
pub record Gives (m : Machine) (caller section : ℕ) : Type 0 where
  pub runs : Runs m caller
  pub last : last_taken (idle m).holds caller ≡ some section

-- the rule that a call breaks where nothing is due, 0 if there is none
abbrev pub asked : Machine → Call → ℕ
asked m k = rule_number (broken (plan_of m) (idle m) (call k))

-- What a call leaves before its Switch: a machine and its reports, which stand for this state; the plan is the one that came.
pub record Meets (left : Machine) (rs : Reports) (m : Machine) (st : state.State) : Type 0 where
  pub plan' : left.plan ≡ m.plan
  pub seen : viewed left (owed rs) ≡ st
  pub keeps : T (kept left)

-- The first broken rule, if any; then what the model's call makes of the state that came, or this state.
pub record MakesOf (st : state.State) (left : Machine) (rs : Reports) (rule : Result Unit Rule) (m : Machine) (k : Call) : Type 0 where
  pub plan' : left.plan ≡ m.plan
  pub rule' : answer_number rule ≡ rule_number (broken (plan_of m) st (call k))
  pub made : is_ok rule ≡ true → viewed left (owed rs) ≡ perform (plan_of m) k st
  pub stays : is_ok rule ≡ false → viewed left (owed rs) ≡ st
  pub keeps : T (kept left)

-- calls other than Tick come with nothing due
abbrev pub Makes : (left : Machine) (rs : Reports) (rule : Result Unit Rule) (m : Machine) (k : Call) → Type 0
Makes left rs rule m k = MakesOf (idle m) left rs rule m k

same : {left left' : Machine} {rs rs' : Reports} {m : Machine} {st : state.State} → left ≡ left' → rs ≡ rs' → Meets left' rs' m st → Meets left rs m st
same a b w = record { plan' = ap (λ (x : Machine). x.plan) a ∙ w.plan'; seen = ap₂ (λ (x : Machine) (l : Reports). viewed x (owed l)) a b ∙ w.seen; keeps = subst (λ (x : Machine). T (kept x)) (sym a) w.keeps }

-- a call that breaks no rule, and one that does, which leaves the machine and no report; on either way both are those named last
module _ {left : Machine} {rs rs' : Reports} {rule : Result Unit Rule} {m : Machine} {k : Call} (e : answer_number rule ≡ asked m k) where
  pub admits : {left' : Machine} {st : state.State} → perform (plan_of m) k (idle m) ≡ st → is_ok rule ≡ true → left ≡ left' → rs ≡ rs' → Meets left' rs' m st → Makes left rs rule m k
  admits q z a b w = let v = same a b w in record { plan' = v.plan'; rule' = e; made = λ k. v.seen ∙ sym q; stays = λ d. absurd (true≢false (sym z ∙ d)); keeps = v.keeps }

  pub refuses : T (kept m) → is_ok rule ≡ false → left ≡ m → rs ≡ rs' → owed rs' ≡ [] → Makes left rs rule m k
  refuses t d a b n = let v = same {m = m} a b (record { plan' = refl; seen = ap (viewed m) n; keeps = t }) in record { plan' = v.plan'; rule' = e; made = λ z. absurd (true≢false (sym z ∙ d)); stays = λ k. v.seen; keeps = v.keeps }

-- what the model's call of the chosen thread does
pub by : {m : Machine} {x : ℕ} → Runs m x → (act : ℕ → state.State → state.State) → by_caller (chosen (plan_of m) (idle m)) act (idle m) ≡ act x (idle m)
by {m} c act = ap (λ (o : Option ℕ). by_caller o act (idle m)) c.chosen'
