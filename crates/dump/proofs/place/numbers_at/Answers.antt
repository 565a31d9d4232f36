-- `numbers_at` meets its contract: the kind and the operand of one record.
use mathlib.Core.Path.{◌∙◌}
use Rattle.dump.proofs.Running.{running_within, running_operand}
use Rattle.dump.proofs.place.numbers_at.Goals as goal
use Rattle.dump.proofs.place.numbers_at.Goals.{Start}

pub word_at-requires : goal.word_at-requires
word_at-requires c =
    running_within c.args.bytes.now c.args.i c.requires.2 c.requires.0 c.requires.1

pub returns : goal.returns
returns c =
    (c.kind_at.ensures, c.word_at.ensures ∙ running_operand c.args.bytes.now c.args.i c.requires.2)
