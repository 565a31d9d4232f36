-- `may_take` meets its contract: the bit of the thread's entry, and of 0 past the last one.
use mathlib.Core.Path.{sym}
use lib.ListN.{get_or}
use Rattle.plan.proofs.Bits.{no_bits}
use Rattle.model.proofs.Loops.{listed, unlisted}
use Rattle.plan.proofs.lookup.may_take.Goals as goal

pub returns-then-t-threads : goal.returns-then-t-threads
returns-then-t-threads c =
    rw (listed (λ t. get_or c.args.needs t 0) c.args.threads c.args.thread 0 c.if-t-threads.true) c.needs_bit.ensures

pub returns-else-t-threads : goal.returns-else-t-threads
returns-else-t-threads c =
    rw (unlisted (λ t. get_or c.args.needs t 0) c.args.threads c.args.thread 0 c.if-t-threads.false) (sym (no_bits c.args.section))
