-- `Holds::push` meets its contract: a number put in front of each word is a hold put in front of the list, and the owner is found by one comparison.
use native.Mathlib.Omega.{arith}
use Rattle.lists.proofs.Holdings.{hold_in_front}
use Rattle.lists.proofs.holds.Holds.push.Goals as goal
use Rattle.lists.proofs.holds.Holds.push.Goals.{After-in_front-threads}

pub returns : goal.returns
returns c =
    let a = c.args in
    let h = a.self in (
      rw (c.in_front-sections.ensures, c.in_front-threads.ensures)
          (hold_in_front h.count h.sections h.threads a.section a.thread (omega arith) (omega arith) (omega arith)),
      c.gained-top.ensures,
    )
