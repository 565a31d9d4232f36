-- `put_number` meets its contract: the digits that std writes are the number's decimal digits.
use Rattle.std.proofs.Common.{arith}
use Rattle.std.proofs.lemmas.Grind.{common_steps}
use Rattle.streams.proofs.Fewest.{own_decimal}
use Rattle.streams.proofs.text.put_number.Goals as goal

pub returns-clause-text : goal.returns-clause-text
returns-clause-text c = grind (arith, common_steps, own_decimal c.args.n c.ranges.n.fits)
