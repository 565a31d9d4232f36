-- Sleepers that share a tick, in runs beside the known ones, each with its verdict.
use mathlib.Core.Path.{◌≡◌, refl}
use mathlib.Core.List.{List, [], ◌∷◌, ◌++◌}
use mathlib.Core.Option.{none, some}
use Rattle.model.specs.Records.{Create, Delay, Tick, Ready, Switch, Record}
use Rattle.model.specs.Runs.{clean, breach, judge}
use Rattle.model.specs.Known.{made, started, pair}
use Rattle.model.proofs.Examples.Judged.{judged}

-- thread 0 delays before thread 1, wakes, and delays again; both are then due at tick number 4
abbrev again : List Record
again =
    started 0 ++ made (Create 1) (Ready 1 ∷ [])
    ++ made (Delay 1) (Switch (some 1) ∷ []) ++ made (Delay 3) (Switch none ∷ [])
    ++ made Tick [] ++ made Tick (Ready 0 ∷ Switch (some 0) ∷ []) ++ made (Delay 1) (Switch none ∷ [])
    ++ made Tick []

-- A thread that delays again goes behind those that sleep already.
pub again_last : judge pair (again ++ made Tick (Ready 1 ∷ Ready 0 ∷ Switch (some 1) ∷ [])) ≡ clean 20 0
unfolding judged
again_last = refl

pub not_first : judge pair (again ++ made Tick (Ready 0 ∷ Ready 1 ∷ Switch (some 0) ∷ [])) ≡ breach 17 30
unfolding judged
not_first = refl
