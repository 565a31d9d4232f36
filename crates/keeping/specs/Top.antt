-- Store the owner and the greatest held ceiling in the watch state, and let each call that moves a hold set them (document 02, item 5).
use Rattle.std.specs.Prelude.{Bool, cond, ◌&&◌, List, ℕ, eqb, ltb}
use Rattle.std.proofs.Math.Option.{Option, none, some, map}
use Rattle.model.specs.Searches.{◌▷◌, first_greatest, greatest, same}
use Rattle.model.specs.Plan.{Plan, ceiling}
use Rattle.model.specs.Records.{Create, Delay, Relinquish, End, Take, Give, Tick, Timing, Record, call, report}
use Rattle.model.specs.State.{Hold, State, condition, end_hold}
use Rattle.model.specs.Priorities.{held_ceiling, chosen}
use Rattle.model.specs.Calls.{above_all, held_by_others, wanted, heir}

-- Coined here: the owner with its ceiling, the top of what is held.
pub record Top : Type 0 where
  pub owner : Option ℕ
  pub ceiling : ℕ

-- The walk's result: the thread holding the section of greatest ceiling, on a tie the one taken later, and that ceiling, with 0 and nobody when nothing is
-- held. The ceilings of the held sections are read from anywhere, or from a plan.

unfoldable pub walk_by : (Hold → ℕ) → List Hold → Top
walk_by f hs = record { owner = map (λ (h : Hold). h.thread) (first_greatest f hs); ceiling = greatest f hs }

abbrev pub walk : Plan → List Hold → Top
walk p hs = walk_by (held_ceiling p) hs

-- A lent state where they differ from it answers 12.
abbrev pub top_fits : Plan → List Hold → Top → Bool
top_fits p hs k = same k.owner (walk p hs).owner && eqb k.ceiling (walk p hs).ceiling

-- Let each call that moves a hold set them.

-- a hold begins: its thread is the owner unless a greater ceiling is held; on a tie it is the one taken later
unfoldable pub gained : (ceiling thread : ℕ) → Top → Top
gained c t k = cond (ltb c k.ceiling) k (record { owner = some t; ceiling = c })

-- Take: a hold begins if the caller wins
abbrev pub taken : Plan → (caller section : ℕ) → State → Top → Top
taken p x s st k = cond (above_all p x (held_by_others x st.holds)) (gained (ceiling p s) x k) k

-- an heir, if there is one and nothing bars it, holds the section that it wanted
abbrev pub handed : Plan → Option ℕ → State → Top → Top
handed p none st k = k
handed p (some w) st k = cond (above_all p w st.holds) (gained (ceiling p (wanted (condition st w))) w k) k

-- Give: a hold ends, and what is still held is walked over once; then an heir's hold may begin
abbrev pub gave : Plan → (caller section : ℕ) → State → Top → Top
gave p x s st k = walk p (end_hold s x st).holds ▷ handed p (heir p st) (end_hold s x st)

-- with nobody running there is no such call (rule 22)
abbrev pub set_for : Option ℕ → (ℕ → Top → Top) → Top → Top
set_for none set k = k
set_for (some x) set k = set x k

-- what a record makes of them, from the state before it
abbrev pub set_by : Plan → Record → State → Top → Top
set_by p (call (Create t)) st k = k
set_by p (call (Delay n)) st k = k
set_by p (call Relinquish) st k = k
set_by p (call End) st k = k
set_by p (call (Take s)) st k = set_for (chosen p st) (λ x. taken p x s st) k
set_by p (call (Give s)) st k = set_for (chosen p st) (λ x. gave p x s st) k
set_by p (call Tick) st k = k
set_by p (call (Timing c)) st k = k
set_by p (report r) st k = k
