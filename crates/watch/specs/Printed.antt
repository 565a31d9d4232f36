-- What the program prints of its standard input, as bytes.
use Rattle.std.specs.Prelude.{List, [], ◌∷◌, ℕ}
use Rattle.model.specs.Runs.{clean, breach}
use Rattle.monitor.specs.Answers.{Answer, refused, judged, check}
use Rattle.streams.specs.Text.{ascii, decimal, line}
use Rattle.streams.specs.Input.{plan_in, behind_plan}

-- a plan and then a dump
abbrev pub answered : (input : List ℕ) → Answer
answered input = check (plan_in input) (behind_plan input)

-- one line: `clean`, records, due; or `breach`, record from 0, rule; or `refused`, number
abbrev pub line_of : Answer → List ℕ
line_of (judged (clean records due)) = line (ascii "clean" ∷ decimal records ∷ decimal due ∷ [])
line_of (judged (breach place rule)) = line (ascii "breach" ∷ decimal place ∷ decimal rule ∷ [])
line_of (refused number) = line (ascii "refused" ∷ decimal number ∷ [])

abbrev pub printed : (input : List ℕ) → List ℕ
printed input = line_of (answered input)
