-- `bases_pass` meets its contract: a loop that asks whether all pass.
use lib.ListN.{get_or}
use Rattle.plan.specs.Bytes.{is_priority}
use Rattle.model.proofs.Loops.{AllLeft}
use Rattle.plan.proofs.questions.bases_pass.Given as goal

abbrev pub invariant-loop-t : goal.invariant-loop-t
invariant-loop-t l = AllLeft is_priority (λ k. get_or l.bases k 0) l.threads l.t
