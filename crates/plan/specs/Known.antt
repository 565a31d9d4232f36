-- The plans of the known runs as bytes.
use Rattle.std.specs.Prelude.{List, [], ◌∷◌, ◌++◌, ℕ, ◌/◌, ◌%◌}
use Rattle.model.specs.Plan.{Plan, threads}

-- numbers in two bytes each, low byte first
abbrev pub words : List ℕ → List ℕ
words [] = []
words (n ∷ ns) = n % 256 ∷ n / 256 ∷ words ns

-- a plan as bytes: T; S; the base priorities; the needs
abbrev pub plan_bytes : Plan → List ℕ
plan_bytes p = threads p ∷ p.sections ∷ p.bases ++ words p.needs

-- Run A. Plan `03 01 01 02 03 01 00 00 00 01 00`.
abbrev pub plan_a_bytes : List ℕ
plan_a_bytes = 0x03 ∷ 0x01 ∷ 0x01 ∷ 0x02 ∷ 0x03 ∷ 0x01 ∷ 0x00 ∷ 0x00 ∷ 0x00 ∷ 0x01 ∷ 0x00 ∷ []

-- P12. One thread of priority 1, no section.
abbrev pub plan12_bytes : List ℕ
plan12_bytes = 0x01 ∷ 0x00 ∷ 0x01 ∷ 0x00 ∷ 0x00 ∷ []
