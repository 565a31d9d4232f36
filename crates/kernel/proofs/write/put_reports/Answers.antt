-- `put_reports` meets its contract: each turn puts the first report due at its place and gives it.
use mathlib.Core.Path.{ap}
use Prim.Native.Nat.{◌+◌, ◌<◌, ◌^◌}
use native.Mathlib.Omega.{arith}
use lib.ListN.{length}
use Rattle.machine.specs.Clauses.{Owes}
use Rattle.kernel.proofs.Giving.{giving_owes, giving_due}
use Rattle.kernel.proofs.Putting.{putting_begin, putting_fits, putting_next, putting_done}
use Rattle.kernel.proofs.write.put_reports.Goals as goal
use Rattle.kernel.proofs.write.put_reports.Goals.{After-first_due-r, After-put, In-loop-r}

pub loop-r-init : goal.loop-r-init
loop-r-init c = putting_begin c.requires

owes : (c : goal.In-loop-r) → Owes c.loop-r.s
owes c = giving_owes c.loop-r.invariant.giving (omega (arith, c.due_count.ensures, c.loop-r-test.true))

-- the report has two places of its own
fits : (c : goal.In-loop-r) → (let l = c.loop-r in (2 + l.at < length l.out) × (l.to + 1 < length l.out))
fits c = putting_fits c.loop-r.invariant c.requires (owes c).due'

pub first_due-r-requires : goal.first_due-r-requires
first_due-r-requires c = owes (goal.at.first_due-r-requires c).In-loop-r

pub put-requires : goal.put-requires
put-requires c = fits (goal.at.put-requires c).In-loop-r

pub delivered-s-requires : goal.delivered-s-requires
delivered-s-requires c = (owes (goal.at.delivered-s-requires c).In-loop-r, c.first_due-r.ensures)

-- both places are within a slice, so that the next ones are numbers still
room : (t : goal.In-loop-r) → (t.loop-r.at + 1 < 2 ^ 64) × (t.loop-r.to + 2 < 2 ^ 64)
room t =
    let short = t.well_formed.1.0 in
    (omega (arith, (fits t).0, t.loop-r.invariant.size, short), omega (arith, (fits t).1, t.loop-r.invariant.size, short))

pub overflow_add-at : goal.overflow_add-at
overflow_add-at c = record { fits = (room (goal.at.overflow_add-at c).In-loop-r).0 }

pub overflow_add-to : goal.overflow_add-to
overflow_add-to c = record { fits = (room (goal.at.overflow_add-to c).In-loop-r).1 }

pub loop-r-smaller : goal.loop-r-smaller
loop-r-smaller c =
    omega (arith, ap length (giving_due c.loop-r.invariant.giving c.first_due-r.ensures c.delivered-s.ensures))

pub loop-r-preserved : goal.loop-r-preserved
loop-r-preserved c =
    putting_next c.loop-r.invariant c.first_due-r.result c.delivered-s.result c.put.new.out c.first_due-r.ensures c.delivered-s.ensures c.put.ensures

pub shape_of-out : goal.shape_of-out
shape_of-out c = c.loop-r.invariant.size

pub returns : goal.returns
returns c = putting_done c.loop-r.invariant (omega (arith, c.due_count.ensures, c.loop-r-test.false))
