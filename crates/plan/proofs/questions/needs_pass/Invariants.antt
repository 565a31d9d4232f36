-- `needs_pass` meets its contract: a loop that asks whether all pass.
use lib.ListN.{get_or}
use Rattle.plan.specs.Bytes.{needs_within}
use Rattle.model.proofs.Loops.{AllLeft}
use Rattle.plan.proofs.questions.needs_pass.Given as goal

abbrev pub invariant-loop-t : goal.invariant-loop-t
invariant-loop-t l = AllLeft (needs_within l.sections) (λ k. get_or l.needs k 0) l.threads l.t
