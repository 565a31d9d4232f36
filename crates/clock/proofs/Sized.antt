-- The lengths of the arrays of the timers, from what owning them tells.
use mathlib.Core.Path.{◌≡◌}
use mathlib.Core.List.{◌∷◌, []}
use lib.ListN.{length}
use denote.Laws.{Is}
use denote.Struct.Laws.{owed, val}
use denote.Struct.Declared.{row}
use Rattle.clock.specs.declared.timers.Timers.{Timers}
use Rattle.clock.specs.contracts.timers.Timers.{the_type}
use Rattle.clock.proofs.timers.Timers.TheLaws.{the_laws}

module _ (t : Timers) (good : Is (row the_type) t (val the_type the_laws t ∷ [])) where
  pub expiries_size : length t.expiries ≡ 8
  expiries_size = (owed the_type the_laws t _ good).0.1.0.1

  pub periods_size : length t.periods ≡ 8
  periods_size = (owed the_type the_laws t _ good).1.0.1.0.1
