-- The loop that gives the reports due and puts each at its place: what is put so far and what is still due make the whole.
use mathlib.Core.Path.{◌≡◌, refl, ap, sym, ◌∙◌}
use mathlib.Core.List.{List, map}
use Prim.Native.Nat.{ℕ, ◌+◌, ◌*◌, ◌≤◌, ◌<◌}
use native.Mathlib.Omega.{arith}
use lib.ListN.{length, length-set}
use Rattle.model.specs.Records.{Report, report}
use Rattle.machine.specs.declared.state.State.{State}
use Rattle.due.specs.declared.reports.Report as code
use Rattle.due.specs.Lists.{report_of}
use Rattle.machine.specs.View.{view}
use Rattle.machine.specs.Clauses.{FirstDue, Delivers}
use Rattle.due.proofs.Laws.{kind_is}
use Rattle.dump.specs.Layout.{kind_of, operand_of}
use Rattle.kernel.specs.Clauses.{record_put, records_put, ReportsFit, Places}
use Rattle.kernel.proofs.ReportBytes.{operand_is}
use Rattle.kernel.proofs.Giving.{Giving, giving_begin, giving_due, giving_next, giving_done, none_left}

pub record Putting (i running : ℕ) (first : State) (before : List ℕ) (at to : ℕ) (s : State) (out : List ℕ) : Type 0 where
  pub giving : Giving first s
  pub size : length out ≡ length before
  pub count : at + length (view s).due ≡ i + length (view first).due
  pub place : to + 2 * length (view s).due ≡ running + 2 * length (view first).due
  pub bytes : records_put at to (map report (view s).due) out ≡ records_put i running (map report (view first).due) before

module _ {i running : ℕ} {first : State} {before : List ℕ} where
  pub putting_begin : ReportsFit first i running before → Putting i running first before i running first before
  putting_begin h = record { giving = giving_begin first h.formed'; size = refl; count = refl; place = refl; bytes = refl }

  module _ {at to : ℕ} {s : State} {out : List ℕ} (u : Putting i running first before at to s out) where
    -- the next report has two places of its own
    pub putting_fits : ReportsFit first i running before → 0 < length (view s).due → (2 + at < length out) × (to + 1 < length out)
    putting_fits h d = (omega (arith, u.count, u.size, h.kinds), omega (arith, u.place, u.size, h.operands))

    pub putting_next : (r : code.Report) (s' : State) (out' : List ℕ) → FirstDue r s → Delivers s' s r → out' ≡ record_put at to r.kind r.operand out → Putting i running first before (at + 1) (to + 2) s' out'
    putting_next r s' out' f d q =
        let due = giving_due u.giving f d in
        let given = report (report_of r) in
        let same : out' ≡ record_put at to (kind_of given) (operand_of given) out =
        q ∙ ap (λ y. record_put at to r.kind y out) (operand_is r f.kind') ∙ ap (λ k. record_put at to k (operand_of given) out) (sym (kind_is r f.kind'))
        in
        record {
          giving = giving_next u.giving f d;
          size = ap length q ∙ simp length-set u.size;
          count = omega (arith, u.count, ap length due);
          place = omega (arith, u.place, ap length due);
          bytes =
              ap (records_put (at + 1) (to + 2) (map report (view s').due)) same
              ∙ sym (ap (λ (l : List Report). records_put at to (map report l) out) due)
              ∙ u.bytes;
        }

    pub putting_done : length (view s).due ≤ 0 → Places (record { state = s; records = at; running = to }) first i running before out
    putting_done h =
        record {
          settles = giving_done u.giving h;
          records' = omega (arith, u.count);
          running' = omega (arith, u.place);
          bytes = ap (λ (l : List Report). records_put at to (map report l) out) (sym (none_left (view s).due h)) ∙ u.bytes;
        }
