-- Why a Give walks over what is still held.
use mathlib.Core.Path.{◌≡◌, refl}
use mathlib.Core.List.{[], ◌∷◌}
use mathlib.Core.Option.{none, some}
use lib.Dec.{T}
use Rattle.model.specs.Plan.{Plan, bit, ceiling, valid_plan}
use Rattle.model.specs.Records.{Give, call}
use Rattle.model.specs.Timers.{no_timers}
use Rattle.model.specs.State.{ready, hold, State}
use Rattle.model.specs.Priorities.{greatest_hold, current, chosen}
use Rattle.model.specs.Calls.{give, switch}
use Rattle.model.specs.Rules.{broken}
use Rattle.model.specs.Runs.{effect}
use Rattle.model.specs.Formed.{formed_machine, formed_reports, formed}
use Rattle.keeping.specs.Top.{walk_by, walk}

-- In a state that came from outside the owner after a Give need not be the holder of the latest hold left, as it is in every run: here thread 0 gives section 0, the first hold left is thread 1's, and thread 2 is the owner.
abbrev plan3 : Plan
plan3 = record { sections = 3; bases = 9 ∷ 1 ∷ 3 ∷ []; needs = 1 ∷ 2 ∷ 4 ∷ [] }

abbrev lent : State
lent = record { tick_number = 0; conditions = ready ∷ ready ∷ ready ∷ []; queue = 0 ∷ 1 ∷ 2 ∷ []; holds = hold 0 0 ∷ hold 1 1 ∷ hold 2 2 ∷ []; waits = []; delays = []; reported = some 0; due = []; timers = no_timers }

abbrev given0 : State
given0 = effect plan3 (call (Give 0)) lent

pub lent_owner_is_not_next : T (formed plan3 lent) × (broken plan3 lent (call (Give 0)) ≡ none) × (given0.holds ≡ hold 1 1 ∷ hold 2 2 ∷ []) × ((walk plan3 given0.holds).owner ≡ some 2)
unfolding formed formed_machine formed_reports valid_plan broken give switch chosen current greatest_hold ceiling bit walk_by
lent_owner_is_not_next = (tt, refl, refl, refl)
