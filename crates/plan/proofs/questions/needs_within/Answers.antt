-- `needs_within` meets its contract: a shift by S leaves the bits at S and above.
use Rattle.plan.proofs.Bits.{shifted_out}
use Rattle.plan.proofs.questions.needs_within.Goals as goal

pub returns : goal.returns
returns c = shifted_out c.args.needs c.args.sections
