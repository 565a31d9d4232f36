-- `bounds_table` meets its contract: a loop that stores the bounds of one kind in each turn.
use native.Mathlib.Omega.{arith}
use lib.ListN.{length-set}
use Rattle.dump.proofs.Operands.{tabled}
use Rattle.dump.proofs.questions.bounds_table.Goals as goal
use Rattle.dump.proofs.questions.bounds_table.Goals.{At-loop-k}

pub loop-k-preserved : goal.loop-k-preserved
loop-k-preserved c =
    let a = c.args in
    (omega arith, simp length-set c.loop-k.invariant.1, tabled a.threads a.sections a.list c.loop-k.k c.loop-k.table c.bounds_for-b.result (omega arith) c.loop-k.invariant.2 c.bounds_for-b.ensures)
