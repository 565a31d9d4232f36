-- What the functions on a lent watch state answer and leave.
use Rattle.std.specs.Prelude.{◌≡◌, List, ℕ}
use Rattle.std.proofs.Math.Option.{some}
use Rattle.plan.specs.Bytes as plans
use Rattle.plan.specs.Bytes.{number}
use Rattle.live.specs.Watching.{refused, broken, begin, reply, after, watched_unless}
use Rattle.live.specs.Clauses.{seen, reply_as}
use Rattle.live.specs.declared.live.Watch.{Watch}
use Rattle.live.specs.declared.live.Reply.{Reply}
use Rattle.exports.specs.Numbers.{reply_number, reply_due}

-- A state is made from a plan that passes 1 to 4, and carries it; on a refusal every watch state keeps its content.
pub record Begins (answer : ℕ) (left came : Watch) (plan : List ℕ) : Type 0 where
  pub answer' : answer ≡ number (plans.refusal plan)
  pub leaves : seen left ≡ watched_unless (plans.refusal plan) (begin plan) (seen came)
  -- the struct itself is the one that came, whole
  pub refused' : (q : ℕ) → plans.refusal plan ≡ some q → left ≡ came

-- the number of a reply, and what is due beside it
pub record Tells (answer due was : ℕ) (r : Reply) : Type 0 where
  pub answer' : answer ≡ reply_number (reply_as r)
  pub due' : due ≡ reply_due (reply_as r) was

-- What a step answers, sets and leaves, of every lent state whatsoever.
pub record Steps (answer : ℕ) (left came : Watch) (kind operand due was : ℕ) : Type 0 where
  pub answer' : answer ≡ reply_number (reply (seen came) kind operand)
  pub due' : due ≡ reply_due (reply (seen came) kind operand) was
  pub leaves : seen left ≡ after (seen came) kind operand
  -- where the answer is 12, 7, 8 or 13 the struct is the one that came, whole
  pub refused' : (q : ℕ) → reply (seen came) kind operand ≡ refused q → left ≡ came
  -- so it is where a breach is stored
  pub stored' : (came.rule ≡ 0 → ⊥) → left ≡ came
  -- a new breach changes the stored rule alone
  pub breach' : (n : ℕ) → came.rule ≡ 0 → reply (seen came) kind operand ≡ broken n → left ≡ record { state = came.state; rule = n }
