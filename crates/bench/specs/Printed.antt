-- What the program writes of its standard input, as bytes: the dump to standard output; on a refusal nothing there, and one line to standard
-- error.
use Rattle.std.specs.Prelude.{List, [], ◌∷◌, ℕ, length, take, Option, None, Some}
use Rattle.arrayvec.specs.ArrayVec.{ArrayVec}
use Rattle.kernel.specs.Answers.{Answer, refused, wrote, bytes_for, answer, output}
use Rattle.streams.specs.Text.{ascii, decimal, line}
use Rattle.streams.specs.Input.{plan_in, behind_plan}

-- a plan and then a call list, with an output of so many bytes
abbrev pub answered : (input : List ℕ) (space : ℕ) → Answer
answered input space = answer (plan_in input) (behind_plan input) space

abbrev pub filled : (input out : List ℕ) → List ℕ
filled input out = output (plan_in input) (behind_plan input) out

-- the dump at the front of the output, nothing on a refusal
abbrev pub dump_in : Answer → (out : List ℕ) → List ℕ
dump_in (wrote records) out = take (bytes_for records) out
dump_in (refused number) out = []

abbrev pub to_output : (input out : List ℕ) → List ℕ
to_output input out = dump_in (answered input (length out)) (filled input out)

-- `refused`, number; nothing with a dump
abbrev pub line_of : Answer → List ℕ
line_of (wrote records) = []
line_of (refused number) = line (ascii "refused" ∷ decimal number ∷ [])

abbrev pub to_error : (input : List ℕ) (space : ℕ) → List ℕ
to_error input space = line_of (answered input space)

-- a text, if there is one
abbrev pub bytes_of : Option (ArrayVec ℕ) → List ℕ
bytes_of None = []
bytes_of (Some text) = text.items
