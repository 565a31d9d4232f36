-- Which timers of the model the code's numbers stand for.
use Rattle.std.specs.Prelude as std
use Rattle.std.specs.Prelude.{Some, None, cond, List, map, ℕ, eqb, get_or}
use Rattle.std.proofs.Math.Option.{Option, none, some}
use Rattle.model.specs.Searches.{up_to}
use Rattle.model.specs.Records.{timer_count}
use Rattle.model.specs.Timers as model
use Rattle.model.specs.Timers.{Timer, timer, no_arming, after_arm, after_start}
use Rattle.clock.specs.declared.time.Tick.{Tick}
use Rattle.clock.specs.declared.timers.Arming.{Arming}
use Rattle.clock.specs.declared.timers.Timers.{Timers}

-- the tick number of an entry, 0 past the end
abbrev pub number_at : List Tick → (i : ℕ) → ℕ
number_at numbers i = (get_or numbers i (record { 0 = 0 })).0

-- a timer whose next expiry is 0 is not armed: no timer expires at tick number 0
abbrev pub slot_of : (expiry period : ℕ) → Option Timer
slot_of e n = cond (eqb e 0) none (some (timer e n))

-- the slot of an expiry that may be none
abbrev pub slot_from : std.Option Tick → (period : ℕ) → Option Timer
slot_from None n = none
slot_from (Some e) n = some (timer e.0 n)

abbrev pub slot_in : Timers → (i : ℕ) → Option Timer
slot_in t i = slot_of (number_at t.expiries i) (get_or t.periods i 0)

-- how far an arming has come, by its number. Any other number stands for the arming of a timer that there is not, so that answer 12 is a question
-- about the state alone.
abbrev pub arming_of : Arming → model.Arming
arming_of a = cond (eqb a.stage 0) no_arming (cond (eqb a.stage 1) (after_arm a.timer) (cond (eqb a.stage 2) (after_start a.timer a.start) (after_arm 255)))

abbrev pub view : Timers → model.Timers
view t = record { slots = map (slot_in t) (up_to timer_count); arming = arming_of t.arming }
