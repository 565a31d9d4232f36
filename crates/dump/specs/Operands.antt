-- The bounds in which the code keeps the operand rules: what they admit, and that this is what the rules allow.
use Rattle.std.specs.Prelude.{◌≡◌, Bool, false, cond, ◌&&◌, List, ℕ, ◌<◌, min, eqb, leb, ltb, get_or}
use Rattle.model.specs.Records.{nobody}
use Rattle.dump.specs.declared.questions.Bounds.{Bounds}
use Rattle.dump.specs.Questions.{kind_allowed, operand_fits}

-- below end from low on, and else 65535 where nobody may be named
abbrev pub admits : Bounds → (operand : ℕ) → Bool
admits b n = cond (ltb n b.end) (leb b.low n) (b.nobody && eqb n nobody)

-- the operands below a count: two bytes hold none above 65535
abbrev pub below : (count : ℕ) → Bounds
below count = record { end = min count 65536; low = 0; nobody = false }

-- bounds that admit just the operands that fit
abbrev pub Exact : Bounds → (fits : (operand : ℕ) → Bool) → Type 0
Exact b fits = (n : ℕ) → n < 65536 → admits b n ≡ fits n

-- what passes questions 7 and 8 of a record
abbrev pub record_fits : (threads sections : ℕ) (calls_only : Bool) (kind operand : ℕ) → Bool
record_fits threads sections calls_only k n = kind_allowed calls_only k && operand_fits threads sections k n

-- bounds that admit just this, for each kind below a number
abbrev pub Tabled : (threads sections : ℕ) (calls_only : Bool) (kinds : ℕ) → List Bounds → Type 0
Tabled threads sections calls_only kinds table = (k : ℕ) → k < kinds → Exact (get_or table k (below 0)) (record_fits threads sections calls_only k)
