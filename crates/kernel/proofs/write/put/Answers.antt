-- `put` meets its contract: three bytes are stored, and there is room for each.
use native.Mathlib.Omega.{arith}
use lib.ListN.{length-set}
use Rattle.kernel.proofs.write.put.Goals as goal

pub bounds-out-running : goal.bounds-out-running
bounds-out-running c = simp length-set (omega arith)

pub bounds-out-running-2 : goal.bounds-out-running-2
bounds-out-running-2 c = simp length-set (omega arith)

pub shape_of-out : goal.shape_of-out
shape_of-out c = simp length-set
