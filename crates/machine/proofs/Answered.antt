-- An answer that names no rule has the number 0, and one that names a rule another.
use mathlib.Core.Path.{◌≡◌, refl}
use mathlib.Core.Logic.{◌⊎◌, inl, inr, ◌≢◌}
use mathlib.Core.Bool.{Bool, true, false}
use native.Mathlib.Omega.{arith}
use Rattle.std.specs.Prelude.{Result, Ok, Err, is_ok}
use Rattle.machine.specs.declared.rules.Rule.{Rule}
use Rattle.machine.specs.declared.rules.Rule.TheVariants.{ReportDue, NobodyRuns, NotDormant, HoldsSection, NotNeeded, HeldAlready, NotTakenLast, NoneDue, OtherKind, OtherOperand, ArmingOrder, NotArmed}
use Rattle.machine.specs.Rules.{number_of, answer_number}

-- one of the two
pub yes_or_no : (b : Bool) → (b ≡ true) ⊎ (b ≡ false)
yes_or_no true = inl refl
yes_or_no false = inr refl

pub zero_of : (r : Result Unit Rule) → is_ok r ≡ true → answer_number r ≡ 0
zero_of (Ok u) e = refl
zero_of (Err r) e = absurd cc

numbered : (r : Rule) → number_of r ≢ 0
numbered ReportDue e = absurd (omega (arith, e))
numbered NobodyRuns e = absurd (omega (arith, e))
numbered NotDormant e = absurd (omega (arith, e))
numbered HoldsSection e = absurd (omega (arith, e))
numbered NotNeeded e = absurd (omega (arith, e))
numbered HeldAlready e = absurd (omega (arith, e))
numbered NotTakenLast e = absurd (omega (arith, e))
numbered NoneDue e = absurd (omega (arith, e))
numbered OtherKind e = absurd (omega (arith, e))
numbered OtherOperand e = absurd (omega (arith, e))
numbered ArmingOrder e = absurd (omega (arith, e))
numbered NotArmed e = absurd (omega (arith, e))

pub some_of : (r : Result Unit Rule) → is_ok r ≡ false → answer_number r ≢ 0
some_of (Ok u) e n = absurd cc
some_of (Err r) e n = numbered r n

pub err_of : (r : Result Unit Rule) → answer_number r ≢ 0 → is_ok r ≡ false
err_of (Ok u) d = absurd (d refl)
err_of (Err r) d = refl
