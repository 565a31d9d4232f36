-- `moved` meets its contract: the number due is that of the state after the record.
use Rattle.live.proofs.live.moved.Goals as goal

pub returns : goal.returns
returns c = rw c.due_count.ensures
