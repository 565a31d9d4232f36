-- The plans of the known runs as bytes, and bytes for each No.
use mathlib.Core.Path.{◌≡◌, refl}
use mathlib.Core.List.{[], ◌∷◌, ◌++◌, map}
use mathlib.Core.Option.{Option, none}
use Prim.Native.Nat.{ℕ}
use Rattle.model.specs.Known.{Run, runs}
use Rattle.plan.specs.Bytes.{plan_of, questions, refusal, number}
use Rattle.plan.specs.Known.{plan_bytes, plan_a_bytes}

-- No question refuses the plan of a known run, and it is read back.
pub known_plans : (map (λ (r : Run). refusal (plan_bytes r.of)) runs ≡ map {B = Option ℕ} (λ (r : Run). none) runs) × (map (λ (r : Run). plan_of (plan_bytes r.of)) runs ≡ map (λ (r : Run). r.of) runs)
unfolding refusal questions
known_plans = (refl, refl)

-- No byte, one byte, T = 0, T = 17, S = 17; a byte too many; priority 0, priority 65; a needs bit at S, in the low and in the high byte; the widest counts
pub refusals : map (λ b. number (refusal b))
    ([] ∷ (1 ∷ []) ∷ (0 ∷ 0 ∷ []) ∷ (17 ∷ 0 ∷ []) ∷ (1 ∷ 17 ∷ 1 ∷ 0 ∷ 0 ∷ [])
    ∷ (plan_a_bytes ++ 0 ∷ [])
    ∷ (1 ∷ 0 ∷ 0 ∷ 0 ∷ 0 ∷ []) ∷ (1 ∷ 0 ∷ 65 ∷ 0 ∷ 0 ∷ [])
    ∷ (1 ∷ 1 ∷ 1 ∷ 2 ∷ 0 ∷ []) ∷ (1 ∷ 8 ∷ 1 ∷ 0 ∷ 1 ∷ [])
    ∷ (1 ∷ 16 ∷ 64 ∷ 255 ∷ 255 ∷ []) ∷ [])
    ≡ 1 ∷ 1 ∷ 1 ∷ 1 ∷ 1 ∷ 2 ∷ 3 ∷ 3 ∷ 4 ∷ 4 ∷ 0 ∷ []
unfolding refusal questions
refusals = refl
