-- The number 0 is the answer that no rule is broken.
use mathlib.Core.Path.{◌≡◌}
use mathlib.Core.Option.{none}
use lib.Dec.{T, ltb}
use Rattle.model.specs.Searches.{all}
use Rattle.model.specs.Plan as plan
use Rattle.model.specs.Records as records
use Rattle.model.specs.Records.{call}
use Rattle.model.specs.State as state
use Rattle.model.specs.Rules.{Question, questions, broken}
use Rattle.model.proofs.Laws.{AllYes, all_yes}
use Rattle.plan.proofs.Laws.{zero_none}
use Rattle.machine.specs.Rules.{rule_number}

-- no question has the number 0, so the answer 0 says that no rule is broken, and every question has the answer Yes

numbers : (p : plan.Plan) (st : state.State) (r : records.Record) → T (all (λ (q : Question). ltb 0 q.number) (questions p st r))
numbers p st (call (records.Create t)) = tt
numbers p st (call (records.Delay n)) = tt
numbers p st (call records.Relinquish) = tt
numbers p st (call records.End) = tt
numbers p st (call (records.Take n)) = tt
numbers p st (call (records.Give n)) = tt
numbers p st (call records.Tick) = tt
numbers p st (call (records.Timing (records.Arm i))) = tt
numbers p st (call (records.Timing (records.Start n))) = tt
numbers p st (call (records.Timing (records.Period n))) = tt
numbers p st (call (records.Timing (records.Cancel i))) = tt
numbers p st (records.report r) = tt

pub none_broken : (p : plan.Plan) (st : state.State) (r : records.Record) → rule_number (broken p st r) ≡ 0 → broken p st r ≡ none
unfolding broken
none_broken p st r e = zero_none (questions p st r) (numbers p st r) e

pub yes_to_all : (p : plan.Plan) (st : state.State) (r : records.Record) → rule_number (broken p st r) ≡ 0 → AllYes (questions p st r)
unfolding broken
yes_to_all p st r e = all_yes (questions p st r) (none_broken p st r e)
