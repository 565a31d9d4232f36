-- What the live step asks and answers.
use Rattle.std.specs.Prelude as code
use Rattle.std.specs.Prelude.{◌≡◌, List, ℕ, ◌<◌, T, Some, None, Result, Ok, Err}
use Rattle.std.proofs.Math.Option.{Option, none, some}
use Rattle.model.specs.Formed.{last_tick, formed}
use Rattle.plan.specs.Bytes as plans
use Rattle.plan.specs.declared.bytes.Refusal as refusals
use Rattle.machine.specs.declared.state.State.{State}
use Rattle.lists.specs.Lists.{top_of}
use Rattle.machine.specs.View.{plan_of, view}
use Rattle.machine.specs.Kept.{kept}
use Rattle.dump.specs.Questions.{operand_fits}
use Rattle.live.specs.declared.live.Watch.{Watch}
use Rattle.live.specs.declared.live.Begun.{Begun}
use Rattle.live.specs.declared.live.Reply as replies
use Rattle.live.specs.declared.live.Reply.TheVariants as says
use Rattle.live.specs.declared.live.Told.{Told}
use Rattle.live.specs.declared.live.Refusal.{Refusal}
use Rattle.live.specs.declared.live.Refusal.TheVariants.{State as BadState, Kind, Operand, LastTick}
use Rattle.live.specs.Watching as watching
use Rattle.live.specs.Watching.{Watched, begin, reply, after}

-- what one record asks of a state: that it passes 12, 8 and 13
pub record Asked (s : State) (kind operand : ℕ) : Type 0 where
  pub formed' : T (formed (plan_of s.machine) (view s))
  pub keeps : T (kept s.machine)
  pub operand' : T (operand_fits s.machine.plan.threads s.machine.plan.sections kind operand)
  pub room : kind ≡ 7 → (view s).tick_number < last_tick

-- the watch state that a struct stands for
abbrev pub seen : Watch → Watched
seen w = record { plan = plan_of w.state.machine; state = view w.state; top = top_of w.state.machine.holds.top; rule = w.rule }

-- what refuses a plan's bytes, by the number of the question
abbrev pub plan_refused : code.Option refusals.Refusal → Option ℕ
plan_refused None = none
plan_refused (Some r) = some (plans.question r)

-- what refuses a plan's bytes, if anything, and the state that is made of them
pub record Begins (r : Begun) (plan : List ℕ) : Type 0 where
  pub answer : plan_refused r.refused ≡ plans.refusal plan
  pub leaves : seen r.watch ≡ begin plan

-- the number of the question that a refusal of a step names
abbrev pub question : Refusal → ℕ
question BadState = 12
question Kind = 7
question Operand = 8
question LastTick = 13

-- what an answer refuses, by the number of the question
abbrev pub refused_by : {A : Type 0} → Result A Refusal → Option ℕ
refused_by (Ok a) = none
refused_by (Err r) = some (question r)

abbrev pub reply_as : replies.Reply → watching.Reply
reply_as (says.Refused r) = watching.refused (question r)
reply_as (says.Clean d) = watching.clean d
reply_as (says.Broken r) = watching.broken r

-- What a live step answers and leaves, of every lent state whatsoever.
pub record Tells (r : Told) (w : Watch) (kind operand : ℕ) : Type 0 where
  pub answer : reply_as r.reply ≡ reply (seen w) kind operand
  pub leaves : seen r.watch ≡ after (seen w) kind operand
  -- where the answer is 12, 7, 8 or 13 the struct is the one that came in, whole
  pub refused' : (q : ℕ) → reply (seen w) kind operand ≡ watching.refused q → r.watch ≡ w
  -- so it is where a breach is stored
  pub stored' : (w.rule ≡ 0 → ⊥) → r.watch ≡ w
  -- a new breach changes the stored rule alone
  pub breach' : (n : ℕ) → w.rule ≡ 0 → reply (seen w) kind operand ≡ watching.broken n → r.watch ≡ record { state = w.state; rule = n }
