-- `numbers_in_range` meets its contract: it asks in turn what the model asks.
use mathlib.Core.Path.{◌≡◌, ◌∙◌}
use borrow.Author.Rules.{rules}
use Rattle.formed.proofs.Outside.{numbers_in_turn, numbers_asked}
use Rattle.formed.proofs.formed.numbers_in_range.Goals as goal

pub returns-then-below-2 : goal.returns-then-below-2
returns-then-below-2 c =
    let e : c.in_range.result ≡ numbers_in_turn c.args.m = search rules in
    e ∙ numbers_asked c.args.m

pub returns-else-below-2 : goal.returns-else-below-2
returns-else-below-2 c =
    let e : c.if-below.value ≡ numbers_in_turn c.args.m = search rules in
    e ∙ numbers_asked c.args.m
