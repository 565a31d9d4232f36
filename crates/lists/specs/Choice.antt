-- Current priority, chosen thread, its rivals and the heir, each from the parts that it is read from.
use Rattle.std.specs.Prelude.{Bool, false, cond, not, ◌&&◌, List, ℕ, max, eqb, ltb}
use Rattle.std.proofs.Math.Option.{Option, none, some}
use Rattle.model.specs.Searches.{all, any, first_greatest, greatest, same}
use Rattle.model.specs.State as state
use Rattle.lists.specs.Lists.{ceiling_in}

abbrev pub priority_in : (base : ℕ → ℕ) (owner : Option ℕ) (waits : List ℕ) (thread : ℕ) → ℕ
priority_in base owner ws t = cond (same owner (some t)) (max (base t) (greatest base ws)) (base t)

abbrev pub chosen_in : (base : ℕ → ℕ) (owner : Option ℕ) (queue waits : List ℕ) → Option ℕ
chosen_in base owner q ws = first_greatest (priority_in base owner ws) q

abbrev pub rivalled_in : (base : ℕ → ℕ) (owner : Option ℕ) (queue waits : List ℕ) (thread : ℕ) → Bool
rivalled_in base owner q ws x = any (λ t. not (eqb t x) && eqb (priority_in base owner ws t) (priority_in base owner ws x)) q

-- whether an heir's base is above every ceiling of these holds; nobody inherits where nobody waits
abbrev pub inherits_in : (base : ℕ → ℕ) (ceilings : List ℕ) → List state.Hold → Option ℕ → Bool
inherits_in base ceilings hs none = false
inherits_in base ceilings hs (some w) = all (λ h. ltb (ceiling_in ceilings h) (base w)) hs
