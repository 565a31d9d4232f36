-- `needs_bit` meets its contract: shifting right by s divides by 2 ^ s.
use mathlib.Core.Path.{refl}
use Rattle.model.specs.Plan.{bit}
use Rattle.plan.proofs.lookup.needs_bit.Goals as goal

pub returns : goal.returns
unfolding bit
returns c = refl
