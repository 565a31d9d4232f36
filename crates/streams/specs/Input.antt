-- What a program reads, and what a read tells.
use Rattle.std.specs.Prelude.{◌==◌, if◌then◌else◌, List, ℕ, take, drop, Option, None, Some, Result, Ok, Err}
use Rattle.std.specs.declared.io.Error.{Error}
use Rattle.plan.specs.Bytes.{plan_length}

-- a plan, as many bytes as its first byte implies or all there are, and what is behind it

abbrev pub plan_in : (input : List ℕ) → List ℕ
plan_in input = take (plan_length input) input

abbrev pub behind_plan : (input : List ℕ) → List ℕ
behind_plan input = drop (plan_length input) input

-- what a read tells by what it answers: a failure, or the end of the input where it moved no byte, or how many it moved
abbrev pub meaning_of : Result ℕ Error → Result (Option ℕ) Error
meaning_of (Ok n) = Ok (if n == 0 then None else Some n)
meaning_of (Err e) = Err e
