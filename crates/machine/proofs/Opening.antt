-- A state opened to be moved on from stands for the same state of the model.
use mathlib.Core.Path.{◌≡◌, refl, ap}
use mathlib.Core.Logic.{inl}
use lib.Dec.{T}
use lib.ListN.{drop}
use Rattle.machine.specs.declared.state.State.{State}
use Rattle.machine.specs.View.{viewed, view, shown}
use Rattle.machine.specs.Kept.{kept}
use Rattle.machine.specs.Clauses.{opened}
use Rattle.machine.specs.Calls.{Stands}
use Rattle.machine.proofs.Quieted.{unknown_quiet}
use Rattle.machine.proofs.Owing.{in_array}

module _ (s : State) where
  pub opened_shown : shown (opened s) ≡ view s
  opened_shown = ap (λ l. viewed s.machine (drop s.given l)) (in_array (opened s))

  -- no Switch stands apart, and what happens next is not known
  pub opened_stands : T (kept s.machine) → Stands (opened s)
  opened_stands k = record { keeps = k; apart' = record { apart = inl refl }; quiet' = unknown_quiet s.machine }
