-- `breached` meets its contract: the struct that it makes is the one stated.
use mathlib.Core.Path.{refl}
use Rattle.live.proofs.live.breached.Goals as goal

pub returns : goal.returns
returns c = refl
