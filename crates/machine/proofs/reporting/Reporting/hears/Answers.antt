-- `hears` meets its contract: a report is due and it is no Tick, or the record stands outside its place.
use mathlib.Core.Path.{◌≡◌, ap, sym, ◌∙◌}
use mathlib.Core.Logic.{◌≢◌}
use mathlib.Core.Bool.{Bool, not, ◌&&◌, ◌||◌}
use Prim.Native.Nat.{ℕ}
use borrow.Author.Tests.{eq-eqb, ne_eqb}
use lib.Dec.{eqb, ltb}
use Rattle.machine.specs.Calls.{in_place}
use Rattle.machine.proofs.reporting.Reporting.hears.Goals as goal
use Rattle.machine.proofs.reporting.Reporting.hears.Goals.{Else-self, Joined-kind-ne7, else-kind-ne7, then-kind-ne7}

-- whether something is due and it is no Tick, on each way of the test
module _ (kind : ℕ) (due : Bool) {t : Bool} where
  no_tick : kind ≢ 7 → t ≡ due → t ≡ not (eqb kind 7) && due
  no_tick d e = e ∙ sym (ap (λ b. not b && due) (ne_eqb kind 7 d))

  tick : kind ≡ 7 → t ≡ not (eqb kind 7) → t ≡ not (eqb kind 7) && due
  tick k e = let q = eq-eqb kind 7 k in e ∙ ap not q ∙ sym (ap (λ b. not b && due) q)

pub returns-then-self : goal.returns-then-self
returns-then-self c =
    let a = c.args in
    let due = ltb a.self.given a.self.due in
    -- something is due and it is no Tick
    let barred : c.if-kind-ne7.t-4 ≡ not (eqb a.kind 7) && due =
    elim c.if-kind-ne7.branch [ then-kind-ne7 w ↦ no_tick a.kind due w.if-kind-ne7.true w.t-4-is | else-kind-ne7 w ↦ tick a.kind due w.if-kind-ne7.false w.t-4-is ] in
    c.if-self.true-raw ∙ sym (ap (λ b. b || not (in_place a.self.machine a.kind)) (sym barred ∙ c.if-self.true-raw))

pub returns-else-self : goal.returns-else-self
returns-else-self c =
    let a = c.args in
    let due = ltb a.self.given a.self.due in
    -- nothing is due, or it is a Tick
    let passed : c.if-kind-ne7.t-4 ≡ not (eqb a.kind 7) && due =
    elim c.if-kind-ne7.branch [ then-kind-ne7 u ↦ no_tick a.kind due u.if-kind-ne7.true u.t-4-is | else-kind-ne7 u ↦ tick a.kind due u.if-kind-ne7.false u.t-4-is ] in
    ap not c.in_order.ensures ∙ sym (ap (λ b. b || not (in_place a.self.machine a.kind)) (sym passed ∙ c.if-self.false-raw))
