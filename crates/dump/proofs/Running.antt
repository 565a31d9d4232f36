-- The running place: where it stands at each record, that it moves on by two, and that the record's operand is read there.
use mathlib.Core.Path.{◌≡◌, ap, ◌∙◌}
use mathlib.Core.List.{List}
use Prim.Native.Nat.{ℕ, zero, suc, ◌+◌, ◌*◌, ◌<◌}
use native.Mathlib.Omega.{arith}
use lib.ListN.{length}
use Rattle.plan.specs.Words.{word}
use Rattle.dump.specs.Layout.{record_count, operand_at, running_place}
use Rattle.dump.specs.Questions.{Whole}

-- Document 02: at every record it is 2 + N plus twice that record's number.
pub running_place_lem : (n i : ℕ) → running_place n i ≡ 2 + n + 2 * i
running_place_lem n zero = omega arith
running_place_lem n (suc i) = omega (arith, running_place_lem n i)

running_moves : (n i : ℕ) → running_place n i + 2 ≡ running_place n (i + 1)
running_moves n i = omega (arith, running_place_lem n i, running_place_lem n (i + 1))

-- so what is at record i is at the next one, moved on by two
pub running_next : (n i : ℕ) {running : ℕ} → running ≡ running_place n i → running + 2 ≡ running_place n (i + 1)
running_next n i e = ap (λ at. at + 2) e ∙ running_moves n i

-- record i's operand is read there
module _ (bytes : List ℕ) (i : ℕ) {running : ℕ} (e : running ≡ running_place (record_count bytes) i) where
  pub running_within : Whole bytes → i < record_count bytes → running + 1 < length bytes
  running_within w h = omega (arith, e, running_place_lem (record_count bytes) i, w.size, h)

  pub running_operand : word bytes running ≡ operand_at bytes i
  running_operand = ap (word bytes) (e ∙ running_place_lem (record_count bytes) i)
