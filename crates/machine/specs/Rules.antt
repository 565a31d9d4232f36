-- The rules as the code asks them: from the parts that each reads, as a number, 0 where the answer is Yes.
use Rattle.std.specs.Prelude as code
use Rattle.std.specs.Prelude.{cond, List, ℕ, eqb, ltb, Result, Ok, Err, Some, None}
use Rattle.std.proofs.Math.Option.{Option, none, some}
use Rattle.model.specs.Timers.{slot, is_armed}
use Rattle.model.specs.Rules.{holds_none, holds_not, last_taken}
use Rattle.plan.specs.View.{may_take_in}
use Rattle.lists.specs.declared.holds.Holds.{Holds}
use Rattle.lists.specs.Words.{nibble}
use Rattle.lists.specs.Lists.{numbered, held}
use Rattle.clock.specs.declared.timers.Timers.{Timers}
use Rattle.clock.specs.View.{view}
use Rattle.due.specs.declared.reports.Report.{Report}
use Rattle.machine.specs.declared.slots.Slots.{Slots}
use Rattle.machine.specs.declared.rules.Rule.{Rule}
use Rattle.machine.specs.declared.rules.Rule.TheVariants.{ReportDue, NobodyRuns, NotDormant, HoldsSection, NotNeeded, HeldAlready, NotTakenLast, NoneDue, OtherKind, OtherOperand, ArmingOrder, NotArmed}

-- a rule as a number: 0 if none is broken
abbrev pub rule_number : Option ℕ → ℕ
rule_number none = 0
rule_number (some n) = n

-- the number of each rule
abbrev pub number_of : Rule → ℕ
number_of ReportDue = 21
number_of NobodyRuns = 22
number_of NotDormant = 23
number_of HoldsSection = 24
number_of NotNeeded = 25
number_of HeldAlready = 26
number_of NotTakenLast = 27
number_of NoneDue = 28
number_of OtherKind = 29
number_of OtherOperand = 30
number_of ArmingOrder = 31
number_of NotArmed = 32

-- the rule of a number, if it is one's
abbrev pub rule_numbered : ℕ → code.Option Rule
rule_numbered n =
    cond (eqb n 21) (Some ReportDue)
    (cond (eqb n 22) (Some NobodyRuns)
    (cond (eqb n 23) (Some NotDormant)
    (cond (eqb n 24) (Some HoldsSection)
    (cond (eqb n 25) (Some NotNeeded)
    (cond (eqb n 26) (Some HeldAlready)
    (cond (eqb n 27) (Some NotTakenLast)
    (cond (eqb n 28) (Some NoneDue)
    (cond (eqb n 29) (Some OtherKind)
    (cond (eqb n 30) (Some OtherOperand)
    (cond (eqb n 31) (Some ArmingOrder)
    (cond (eqb n 32) (Some NotArmed) None)))))))))))

-- the number of the rule that an answer names, 0 where it names none
abbrev pub answer_number : Result Unit Rule → ℕ
answer_number (Ok u) = 0
answer_number (Err r) = number_of r

abbrev pub run_rule : (chosen : ℕ) → ℕ
run_rule x = cond (eqb x 255) 22 0

abbrev pub free_rule : Holds → (chosen : ℕ) → ℕ
free_rule hs x = cond (eqb x 255) 22 (cond (holds_none (held hs) x) 0 24)

abbrev pub create_rule : Slots → (thread : ℕ) → ℕ
create_rule slots t = cond (eqb (nibble slots.states t) 0) 0 23

abbrev pub take_rule : (threads : ℕ) (needs : List ℕ) → Holds → (chosen section : ℕ) → ℕ
take_rule threads needs hs x s = cond (eqb x 255) 22 (cond (may_take_in threads needs x s) (cond (holds_not (held hs) s x) 0 26) 25)

abbrev pub give_rule : Holds → (chosen section : ℕ) → ℕ
give_rule hs x s = cond (eqb x 255) 22 (cond (eqb (numbered (last_taken (held hs) x)) s) 0 27)

abbrev pub cancel_rule : Timers → (chosen timer : ℕ) → ℕ
cancel_rule ts x i = cond (eqb x 255) 22 (cond (is_armed (slot (view ts) i)) 0 32)

-- where this report is due first: 21 of a call, 29 and 30 of a report
abbrev pub due_rule : (first : Report) (kind operand : ℕ) → ℕ
due_rule d k n = cond (ltb k 16) 21 (cond (eqb d.kind k) (cond (eqb d.operand n) 0 30) 29)
