-- `Queue::push` meets its contract: a number set behind those in use is one more of them.
use native.Mathlib.Omega.{arith}
use Rattle.lists.proofs.Words.{set-behind}
use Rattle.lists.proofs.queue.Queue.push.Goals as goal

pub returns : goal.returns
returns c =
    let a = c.args in
    rw c.with_nibble-items.ensures (set-behind a.self.count a.self.items a.thread (omega arith))
