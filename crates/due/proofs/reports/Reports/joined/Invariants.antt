-- `Reports::joined` meets its contract: those stored so far, and the reports of those left, are all.
use mathlib.Core.Path.{◌≡◌}
use mathlib.Core.List.{List, ◌++◌, map}
use Prim.Native.Nat.{ℕ, ◌+◌, ◌≤◌}
use lib.ListN.{length}
use Rattle.model.specs.Records as records
use Rattle.lists.specs.Words.{nibbles}
use Rattle.lists.specs.Lists.{queued}
use Rattle.due.specs.declared.reports.Report.{Report}
use Rattle.due.specs.Lists.{report_room, kind_number, report_by, owed}
use Rattle.due.proofs.reports.Reports.joined.Given as goal

-- the reports in use of an array
abbrev pub held : List Report → (n : ℕ) → List records.Report
held items n = owed (record { items = items; count = n })

abbrev pub invariant-loop-t : goal.invariant-loop-t
invariant-loop-t l =
    record {
      room : l.n + length (nibbles l.t-iterator.left l.t-iterator.rest) ≤ report_room;
      sized : length l.items ≡ report_room;
      all : held l.items l.n ++ map (report_by (kind_number l.kind)) (nibbles l.t-iterator.left l.t-iterator.rest) ≡ owed l.fn.self ++ map (report_by (kind_number l.kind)) (queued l.fn.who);
    }
