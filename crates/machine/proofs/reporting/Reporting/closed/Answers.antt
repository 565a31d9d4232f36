-- `closed` meets its contract: a Switch that is due stands in the array behind the other reports.
use mathlib.Core.Path.{◌≡◌, refl, ap, sym, ◌∙◌}
use mathlib.Core.Logic.{inl, inr, ⊎_elim}
use mathlib.Core.Bool.{cond}
use Prim.Native.Nat.{ℕ, ◌+◌, ◌<◌}
use native.Mathlib.Omega.{arith}
use borrow.Author.Tests.{lt-ltb, le-ltb}
use mathlib.Core.List.{List}
use lib.ListN.{get_or, set, drop}
use lib.Seq.{get_or-set_same, get_or-set_other}
use Rattle.model.proofs.Tests.{equal?}
use Rattle.due.specs.declared.reports.Report.{Report}
use Rattle.machine.specs.declared.reporting.Reporting.{Reporting}
use Rattle.due.specs.Lists.{report_room, report_of, no_report, switch_to}
use Rattle.machine.specs.View.{viewed, report_at}
use Rattle.machine.specs.Calls.{Apart, Closes}
use Rattle.model.proofs.Loops.{listed_alike}
use Rattle.machine.proofs.Sized.{reporting_size}
use Rattle.machine.proofs.reporting.Reporting.closed.Goals as goal
use Rattle.machine.proofs.reporting.Reporting.closed.Goals.{Start, Then-n-self}

-- an array that has every report due at its place
closes : (c : Reporting) (items : List Report) → ((i : ℕ) → i < c.due → get_or items i no_report ≡ report_at c i) → Closes (record { machine = c.machine; due = record { items = items; count = c.due }; given = c.given }) c
closes c items e =
    record {
      machine' = refl;
      seen = ap (λ l. viewed c.machine (drop c.given l)) (listed_alike (λ i. report_of (get_or items i no_report)) (λ i. report_of (report_at c i)) c.due (λ i h. ap report_of (e i h)));
    }

-- the Switch has a place
room : (c : Reporting) → Apart c → c.count < c.due → (c.count < report_room) × (c.due ≡ c.count + 1)
room c a h = elim a.apart [ inl e ↦ absurd (omega arith) | inr e ↦ (e.1, e.0) ]

pub switch-requires : goal.switch-requires
switch-requires c = tt

pub offset_bounds-items-n : goal.offset_bounds-items-n
offset_bounds-items-n c = record { fits = omega (arith, (room c.args.self c.requires c.if-n-self.true).0) }

pub bounds-items-n : goal.bounds-items-n
bounds-items-n c = (room c.args.self c.requires c.if-n-self.true).0

pub returns-then-n-self : goal.returns-then-n-self
returns-then-n-self c =
    let q = c.args.self in
    let r = room q c.requires c.if-n-self.true in
    let last : Report = switch_to q.chosen in
    rw c.switch.ensures
    (closes q (set q.reports q.count last)
    (λ i h.
    ⊎_elim
    (λ e. ap (λ k. get_or (set q.reports q.count last) k no_report) e ∙ get_or-set_same q.reports q.count last no_report (omega (arith, r.0, reporting_size q c.well_formed.0))
    ∙ sym (ap (λ b. cond b (get_or q.reports i no_report) last) (le-ltb i q.count (omega arith))))
    (λ d. get_or-set_other q.reports q.count i last no_report d ∙ sym (ap (λ b. cond b (get_or q.reports i no_report) last) (lt-ltb i q.count (omega (arith, r.1, h, d)))))
    (equal? i q.count)))

pub returns-else-n-self : goal.returns-else-n-self
returns-else-n-self c =
    let q = c.args.self in
    closes q q.reports (λ i h. sym (ap (λ b. cond b (get_or q.reports i no_report) (switch_to q.chosen)) (lt-ltb i q.count (omega (arith, h, c.if-n-self.false)))))
