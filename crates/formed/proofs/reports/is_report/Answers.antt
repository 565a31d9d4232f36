-- `is_report` meets its contract: what is left of the kinds that name a thread does so, and a number that names no kind is refused.
use mathlib.Core.Logic.{◌≢◌}
use Prim.Native.Nat.{◌≤◌}
use native.Mathlib.Omega.{arith}
use Rattle.formed.proofs.Reported.{unknown, of_thread}
use Rattle.formed.proofs.reports.is_report.Goals as goal

pub returns-else-operand : goal.returns-else-operand
returns-else-operand c = let a = c.args in of_thread a.plan a.entry (λ e. c.if-operand.false) (omega arith) (omega arith)

pub returns-in-16 : goal.returns-in-16
returns-in-16 c =
    let a = c.args in
    let least : 16 ≤ a.entry.kind = grind arith in
    let most : a.entry.kind ≤ 20 = grind arith in
    let other : a.entry.kind ≢ 17 = grind arith in
    of_thread a.plan a.entry (λ e. absurd (other e)) least most

pub returns-in_default : goal.returns-in_default
returns-in_default c = unknown c.args.plan c.args.entry c.requires (λ h. omega arith)

pub returns-in_default-2 : goal.returns-in_default-2
returns-in_default-2 c = unknown c.args.plan c.args.entry c.requires (λ h. omega arith)
