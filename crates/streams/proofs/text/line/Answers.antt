-- `line` meets its contract: the word, its numbers and a line feed, each behind the text so far.
use Rattle.std.proofs.Common.{arith}
use Rattle.std.proofs.lemmas.Grind.{common_steps}
use Rattle.streams.proofs.Lines.{line_by_spaced}
use Rattle.streams.proofs.text.line.Goals as goal

pub returns : goal.returns
returns c = grind (arith, common_steps, line_by_spaced c.args.word.now c.args.numbers.now)
