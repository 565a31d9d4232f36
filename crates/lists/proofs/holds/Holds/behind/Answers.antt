-- `Holds::behind` meets its contract: a number set behind those of each word is a hold behind the list.
use native.Mathlib.Omega.{arith}
use Rattle.lists.proofs.Holdings.{hold_behind}
use Rattle.lists.proofs.holds.Holds.behind.Goals as goal

pub returns : goal.returns
returns c =
    let h = c.args.self in
    let k = c.args.hold in
    rw (c.with_nibble.ensures, c.with_nibble-2.ensures) (hold_behind h.count h.sections h.threads k.section k.thread (omega arith) (omega arith))
