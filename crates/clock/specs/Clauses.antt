-- What the functions of the timers ask and answer.
use Rattle.std.specs.Prelude.{◌≡◌, cond, List, [], ◌∷◌, ℕ, min, T, eqb}
use Rattle.std.proofs.Math.Option.{Option, none, some}
use Rattle.model.specs.Timers.{Timer}
use Rattle.model.specs.Rules.{stage}
use Rattle.model.specs.Formed.{last_wake, arming_in_range}
use Rattle.clock.specs.declared.timers.Timers.{Timers}
use Rattle.clock.specs.View.{view}

-- how far an arming must have come for a record of this kind to stand there: see model, Rules.place
abbrev pub kind_place : (kind : ℕ) → ℕ
kind_place k = cond (eqb k 9) 1 (cond (eqb k 10) 2 0)

-- an arming, of one of the eight timers where it is in progress, has come so far
pub record Comes (t : Timers) (far : ℕ) : Type 0 where
  pub known : T (arming_in_range (view t).arming)
  pub stage' : stage (view t).arming ≡ far

-- the least tick number at which a timer expires, last_wake where none expires before it
abbrev pub soonest : List (Option Timer) → ℕ
soonest [] = last_wake
soonest (none ∷ ts) = soonest ts
soonest (some t ∷ ts) = min t.expiry (soonest ts)
