-- `conditions::in_range` meets its contract: a loop that asks whether all pass.
use Rattle.model.specs.Formed.{condition_in_range}
use Rattle.model.proofs.Loops.{AllLeft}
use Rattle.machine.specs.View.{condition_in}
use Rattle.formed.proofs.conditions.in_range.Given as goal

abbrev pub invariant-loop-t : goal.invariant-loop-t
invariant-loop-t l = AllLeft (condition_in_range l.m.plan.sections) (condition_in l.m.slots l.m.wakes) l.m.plan.threads l.t
