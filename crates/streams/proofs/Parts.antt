-- The two parts of an input: the plan in front, and all that is left behind it.
use mathlib.Core.Path.{◌≡◌, ap, ◌∙◌}
use mathlib.Core.List.{List}
use Prim.Native.Nat.{ℕ, ◌-◌}
use native.Mathlib.Omega.{arith}
use lib.ListN.{length, take, drop, length-drop}
use lib.Seq.{take_all}
use Rattle.plan.specs.Bytes.{plan_length}
use Rattle.streams.specs.Input.{plan_in, behind_plan}

-- what is told of both parts, where they are cut at the plan's end
pub parted : {A : Type 0} (tell : (plan behind : List ℕ) → A) (input : List ℕ) (n : ℕ) → n ≡ plan_length input → tell (take n input) (take (length input - n) (drop n input)) ≡ tell (plan_in input) (behind_plan input)
parted tell input n e = ap (tell (take n input)) (take_all (length input - n) (drop n input) (omega (arith, length-drop n input))) ∙ ap (λ k. tell (take k input) (drop k input)) e
