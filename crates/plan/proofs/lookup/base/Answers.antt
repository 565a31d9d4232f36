-- `base` meets its contract: the entry of a thread, and 0 past the last one.
use mathlib.Core.Path.{sym}
use lib.ListN.{get_or}
use Rattle.model.proofs.Loops.{listed, unlisted}
use Rattle.plan.proofs.lookup.base.Goals as goal

pub returns-then-t-threads : goal.returns-then-t-threads
returns-then-t-threads c =
    sym (listed (λ t. get_or c.args.bases t 0) c.args.threads c.args.thread 0 c.if-t-threads.true)

pub returns-else-t-threads : goal.returns-else-t-threads
returns-else-t-threads c =
    sym (unlisted (λ t. get_or c.args.bases t 0) c.args.threads c.args.thread 0 c.if-t-threads.false)
