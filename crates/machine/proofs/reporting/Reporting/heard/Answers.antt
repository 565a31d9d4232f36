-- `heard` meets its contract: in its place a record finds something due.
use mathlib.Core.Path.{◌≡◌, sym, ◌∙◌}
use Prim.Native.Nat.{ℕ, ◌<◌}
use native.Mathlib.Omega.{arith}
use borrow.Author.Tests.{lt-ltb}
use lib.Dec.{T}
use lib.ListN.{length}
use Rattle.model.proofs.Tests.{from_true}
use Rattle.machine.specs.declared.reporting.Reporting.{Reporting}
use Rattle.due.specs.Lists.{report_room}
use Rattle.machine.specs.View.{report_at}
use Rattle.machine.specs.Calls.{in_place, Hearing}
use Rattle.machine.proofs.Facts.{facts}
use Rattle.due.proofs.Laws.{within}
use Rattle.machine.proofs.Owing.{due_known, unowed}
use Rattle.machine.proofs.Sized.{reporting_size}
use Rattle.machine.proofs.reporting.Reporting.heard.Goals as goal

pub in_order-requires : goal.in_order-requires
in_order-requires c =
    let q = c.args.self in
    (facts (unowed q.machine (report_at q) q.due q.given c.requires.formed')).arming

-- the first report due, where it is one of the array, is in it
in_array : (c : Reporting) {kind : ℕ} → Hearing c kind → T (in_place c.machine kind) → length c.reports ≡ report_room → c.given < c.count → c.given < report_room
in_array c a o size h =
    within c.reports c.given size
    (rw (lt-ltb c.given c.count h) at (due_known c.machine (report_at c) c.due c.given a.formed' c.given (omega arith) (a.due' o)))

-- in its place something is due
pub first-first-requires : goal.first-first-requires
first-first-requires c =
    let o = from_true (in_place c.args.self.machine c.args.kind) (sym c.in_order.ensures ∙ c.if-in_order.true) in
    in_array c.args.self c.requires o (reporting_size c.args.self c.well_formed.0)
