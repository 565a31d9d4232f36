-- `Reports::without_switch` meets its contract: those stored so far, and those left but a Switch, are all that are due but a Switch.
use mathlib.Core.Path.{◌≡◌, refl, ap, sym, ◌∙◌}
use mathlib.Core.List.{◌++◌, map, append-nil}
use native.Mathlib.Omega.{arith}
use mathlib.Core.Logic.{inl, inr}
use Prim.Native.Nat.{◌-◌}
use Rattle.std.proofs.lemmas.Bool.{cases_lt}
use lib.ListN.{length, drop_of_length-le, length-set, length-map, length-drop}
use Rattle.model.specs.State.{without_switch}
use Rattle.due.specs.Lists.{report_of, owed}
use Rattle.due.proofs.Places.{length-owed}
use Rattle.due.proofs.reports.Reports.without_switch.Invariants.{held, stored, skipped}
use Rattle.due.proofs.reports.Reports.without_switch.Goals as goal
use Rattle.due.proofs.reports.Reports.without_switch.Goals.{else-not-is, then-not-is}

pub loop-r-init : goal.loop-r-init
loop-r-init c =
    let a = c.args in
    let due = c.due-r-items in
    record {
      few = omega arith;
      room =
          let long : length due.result.now ≡ a.self.count - a.given =
          omega (arith, ap length due.ensures, length-map due.result.now report_of, length-drop a.given (owed a.self), length-owed a.self) in
          elim (cases_lt a.given a.self.count) [ inl k ↦ omega (arith, long, c.requires k) | inr k ↦ omega (arith, long, k) ];
      sized = refl;
      all = refl;
    }

pub offset_bounds-items-n : goal.offset_bounds-items-n
offset_bounds-items-n c = record { fits = omega (arith, c.loop-r.invariant.few, c.loop-r.invariant.room, c.loop-r-test.true) }

pub loop-r-preserved : goal.loop-r-preserved
loop-r-preserved c =
    let l = c.loop-r in
    let due = c.due-r-items.result.now in
    let v = l.invariant in
    let h = c.loop-r-test.true in
    elim c.if-not-is.branch [
      | then-not-is w ↦ rw (w.items-is, w.n-is)
          (record {
            few = omega (arith, v.few);
            room = v.room;
            sized = length-set l.items l.n _ ∙ v.sized;
            all = stored due l.items l.n l.r-index h v.sized (omega (arith, v.few, v.room, h)) (sym c.is.ensures ∙ w.if-not-is.true) ∙ v.all;
          })
      | else-not-is w ↦ rw (w.items-is, w.n-is)
          (record {
            few = omega (arith, v.few);
            room = v.room;
            sized = v.sized;
            all = skipped due l.items l.n l.r-index h (sym c.is.ensures ∙ w.if-not-is.false) ∙ v.all;
          })
    ]

pub returns : goal.returns
returns c =
    let l = c.loop-r in
    let due = c.due-r-items in
    sym (append-nil (held l.items l.n))
    ∙ ap (λ k. held l.items l.n ++ without_switch (map report_of k)) (sym (drop_of_length-le due.result.now {i = l.r-index} c.loop-r-test.false))
    ∙ l.invariant.all ∙ ap without_switch due.ensures
