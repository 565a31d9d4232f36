-- `making` meets its contract: the array begins with the two reports, and as many as the call made due are in use.
use mathlib.Core.Path.{◌≡◌, refl, ◌∙◌}
use mathlib.Core.List.{List, [], ◌∷◌}
use Prim.Native.Nat.{ℕ, zero, suc, ◌≤◌}
use native.Mathlib.Omega.{arith}
use lib.ListN.{length, get_or, set}
use Rattle.due.specs.declared.reports.Report.{Report}
use Rattle.due.specs.Lists.{no_report, listed}
use Rattle.machine.proofs.Sized.{reporting_size}
use Rattle.machine.proofs.reporting.Reporting.making.Goals as goal
use Rattle.machine.proofs.reporting.Reporting.making.Goals.{Start}

-- up to two entries of an array that begins with these two
begins : (items : List Report) (a b : Report) → 2 ≤ length items → (n : ℕ) → n ≤ 2 → listed (λ i. get_or (set (set items 0 a) 1 b) i no_report) n ≡ listed (λ i. get_or (a ∷ b ∷ []) i no_report) n
begins [] a b h n k = absurd (omega arith)
begins (x ∷ []) a b h n k = absurd (omega arith)
begins (x ∷ y ∷ l) a b h zero k = refl
begins (x ∷ y ∷ l) a b h (suc zero) k = refl
begins (x ∷ y ∷ l) a b h (suc (suc zero)) k = refl
begins (x ∷ y ∷ l) a b h (suc (suc (suc n))) k = absurd (omega arith)

pub returns : goal.returns
returns c =
    let a = c.args in
    record { count = refl; stored = record { stored = λ due t. begins a.self.reports a.made.first a.made.second (omega (arith, reporting_size a.self c.well_formed.0)) a.made.count t.few ∙ t.listed' } }
