-- Live steps one after another, and the verdict of a whole check in the words of a live step.
use Rattle.std.specs.Prelude.{List, [], ◌∷◌, ℕ, take}
use Rattle.model.specs.Plan.{Plan}
use Rattle.model.specs.Records.{Record}
use Rattle.model.specs.Runs as runs
use Rattle.dump.specs.Layout.{kind_of, operand_of}
use Rattle.live.specs.Watching.{Watched, fresh, Reply, clean, broken, after}

-- the watch state after a live step on each of these records, in order
abbrev pub walked : Watched → List Record → Watched
walked w [] = w
walked w (r ∷ rs) = walked (after w (kind_of r) (operand_of r)) rs

-- the watch state after i live steps, on the first i records of a list, from a fresh one
abbrev pub steps : Plan → List Record → (i : ℕ) → Watched
steps p rs i = walked (fresh p) (take i rs)

-- What a whole check says of a list, as a live step says it of the list's last record: the number due, or the rule of the first breach.
abbrev pub said : runs.Verdict → Reply
said (runs.clean n d) = clean d
said (runs.breach b r) = broken r
