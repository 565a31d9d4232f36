-- `settled` meets its contract: each turn gives the first report due.
use mathlib.Core.Path.{ap}
use native.Mathlib.Omega.{arith}
use lib.ListN.{length}
use Rattle.machine.specs.Clauses.{Owes}
use Rattle.kernel.proofs.Giving.{giving_begin, giving_owes, giving_due, giving_next, giving_done}
use Rattle.kernel.proofs.tally.settled.Goals as goal
use Rattle.kernel.proofs.tally.settled.Goals.{In-loop-r}

pub loop-r-init : goal.loop-r-init
loop-r-init c = giving_begin c.args.state c.requires

owes : (c : goal.In-loop-r) → Owes c.loop-r.s
owes c = giving_owes c.loop-r.invariant (omega (arith, c.due_count.ensures, c.loop-r-test.true))

pub first_due-r-requires : goal.first_due-r-requires
first_due-r-requires c = owes (goal.at.first_due-r-requires c).In-loop-r

pub delivered-s-requires : goal.delivered-s-requires
delivered-s-requires c = (owes (goal.at.delivered-s-requires c).In-loop-r, c.first_due-r.ensures)

pub loop-r-smaller : goal.loop-r-smaller
loop-r-smaller c =
    let g = c.loop-r.invariant in
    omega (arith, ap length (giving_due g c.first_due-r.ensures c.delivered-s.ensures))

pub loop-r-preserved : goal.loop-r-preserved
loop-r-preserved c = giving_next c.loop-r.invariant c.first_due-r.ensures c.delivered-s.ensures

pub returns : goal.returns
returns c = giving_done c.loop-r.invariant (omega (arith, c.due_count.ensures, c.loop-r-test.false))
