-- `beltcairn_abi` meets its contract: it answers the definition's number.
use mathlib.Core.Path.{refl}
use Rattle.exports.proofs.beltcairn_abi.Goals as goal

pub returns : goal.returns
returns c = refl
