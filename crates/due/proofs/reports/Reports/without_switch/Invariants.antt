-- `Reports::without_switch` meets its contract: those stored so far, and those left but a Switch, are all that are due but a Switch.
use mathlib.Core.Path.{◌≡◌, ap, sym, ◌∙◌}
use mathlib.Core.Bool.{true, false, cond, not}
use mathlib.Core.List.{List, [], ◌∷◌, ◌++◌, map, append_assoc}
use Prim.Native.Nat.{ℕ, suc, ◌+◌, ◌≤◌, ◌<◌}
use native.Mathlib.Omega.{arith}
use native.Mathlib.Numerals.{add-one}
use lib.Dec.{eqb}
use lib.ListN.{length, drop, get_or, set}
use lib.Seq.{drop-cons}
use Rattle.model.specs.Records as records
use Rattle.model.specs.State.{without_switch}
use Rattle.model.proofs.Loops.{stored_next}
use Rattle.due.specs.declared.reports.Report.{Report}
use Rattle.due.specs.Lists.{report_room, report_of, no_report, owed}
use Rattle.due.proofs.ReportKinds.{switch_is}
use Rattle.due.proofs.reports.Reports.without_switch.Given as goal

-- the reports in use of an array
abbrev pub held : List Report → (n : ℕ) → List records.Report
held items n = owed (record { items = items; count = n })

module _ (due : List Report) where
  -- those from i on but a Switch
  abbrev pub from : ℕ → List records.Report
  from i = without_switch (map report_of (drop i due))

  pub turn : (i : ℕ) → i < length due → from i ≡ (let r = get_or due i no_report in cond (not (eqb r.kind 17)) (report_of r ∷ from (i + 1)) (from (i + 1)))
  turn i h =
      rw add-one
      (ap (λ l. without_switch (map report_of l)) (drop-cons due i no_report h) ∙ ap (λ b. cond (not b) (report_of (get_or due i no_report) ∷ from (suc i)) (from (suc i))) (switch_is (get_or due i no_report)))

  -- this one is stored, or it is a Switch
  module _ (items : List Report) (n i : ℕ) (h : i < length due) where
    pub stored : length items ≡ report_room → n < report_room → eqb (get_or due i no_report).kind 17 ≡ false
        → held (set items n (get_or due i no_report)) (n + 1) ++ from (i + 1) ≡ held items n ++ from i
    stored e b d =
        let r = get_or due i no_report in
        ap (λ l. l ++ from (i + 1)) (stored_next report_of no_report r items n (omega (arith, e, b)))
        ∙ append_assoc (held items n) (report_of r ∷ []) (from (i + 1))
        ∙ ap (λ l. held items n ++ l) (ap (λ b. cond (not b) (report_of r ∷ from (i + 1)) (from (i + 1))) (sym d) ∙ sym (turn i h))

    pub skipped : eqb (get_or due i no_report).kind 17 ≡ true → held items n ++ from (i + 1) ≡ held items n ++ from i
    skipped e = let r = get_or due i no_report in ap (λ l. held items n ++ l) (ap (λ b. cond (not b) (report_of r ∷ from (i + 1)) (from (i + 1))) (sym e) ∙ sym (turn i h))

abbrev pub invariant-loop-r : goal.invariant-loop-r
invariant-loop-r l =
    record {
      few : l.n ≤ l.r-index;
      room : length l.r-items ≤ report_room;
      sized : length l.items ≡ report_room;
      all : held l.items l.n ++ from l.r-items l.r-index ≡ from l.r-items 0;
    }
