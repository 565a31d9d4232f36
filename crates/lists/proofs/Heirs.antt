-- Laws of the search for the heir: the one kept so far, or the first of greatest base among the waits left if that is greater, is the heir.
use mathlib.Core.Path.{◌≡◌, ap, ◌∙◌}
use mathlib.Core.Bool.{Bool}
use mathlib.Core.List.{List, [], Memᴰ as Mem}
use mathlib.Core.Option.{Option}
use Prim.Native.Nat.{ℕ, ◌<◌}
use lib.Dec.{ltb}
use Rattle.model.specs.Searches.{first_greatest}
use Rattle.model.specs.State as state
use Rattle.model.proofs.Searches.{greatest_is}
use Rattle.lists.specs.Lists.{numbered, thread_of, ceiling_in}
use Rattle.lists.proofs.Queues.{overtaken}
use Rattle.lists.specs.Choice.{inherits_in}
use Rattle.lists.proofs.Numbered.{thread_of-numbered}

-- the hold's ceiling is below this base, and does not bar it
abbrev pub lets : (ceilings : List ℕ) (base : ℕ) → state.Hold → Bool
lets ceilings b h = ltb (ceiling_in ceilings h) b

-- the waits, and those of them that are left
module _ (base : ℕ → ℕ) (ceilings : List ℕ) (hs : List state.Hold) (ws : List ℕ) where
  abbrev heir : Option ℕ
  heir = first_greatest base ws

  abbrev pub HeirLeft : (who : ℕ) (free : Bool) (top : ℕ) (left : List ℕ) → Type 0
  HeirLeft who free top left = (overtaken base who top (first_greatest base left) ≡ numbered heir) × (free ≡ inherits_in base ceilings hs (thread_of who))

  -- at the end of the walk none is left
  pub found_heir : (who : ℕ) (free : Bool) (top : ℕ) → ((t : ℕ) → Mem t ws → t < 255) → HeirLeft who free top [] → (who ≡ numbered heir) × (free ≡ inherits_in base ceilings hs heir)
  found_heir who free top small inv = (inv.0, inv.1 ∙ ap (inherits_in base ceilings hs) (ap thread_of inv.0 ∙ thread_of-numbered heir (λ t e. small t (greatest_is base ws t e).0)))
