-- `machine_formed` meets its contract: it asks in turn what the model asks, the counts before what they count.
use mathlib.Core.Path.{◌≡◌, sym, ◌∙◌}
use mathlib.Core.Bool.{◌&&◌}
use borrow.Author.Rules.{rules}
use Rattle.formed.proofs.Outside.{plan', counts', counts_fit, lists_in_turn, stood, machine_in_turn, machine_asked}
use Rattle.formed.proofs.formed.machine_formed.Goals as goal

pub stand_once-requires : goal.stand_once-requires
stand_once-requires c =
    let e : c.if-passes.value ≡ plan' c.args.m && counts' c.args.m = search rules in
    counts_fit c.args.m (sym e ∙ c.if-counted.true)

pub numbers_in_range-requires : goal.numbers_in_range-requires
numbers_in_range-requires c =
    let e : c.if-counted.value ≡ lists_in_turn c.args.m = search rules in
    stood c.args.m (sym e ∙ c.if-stand_once.true)

pub returns-then-in_range : goal.returns-then-in_range
returns-then-in_range c =
    let e : c.once.result ≡ machine_in_turn c.args.m = search rules in
    e ∙ machine_asked c.args.m

pub returns-else-in_range : goal.returns-else-in_range
returns-else-in_range c =
    let e : c.if-below.value ≡ machine_in_turn c.args.m = search rules in
    e ∙ machine_asked c.args.m
