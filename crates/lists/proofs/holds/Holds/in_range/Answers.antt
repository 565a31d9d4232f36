-- `Holds::in_range` meets its contract: what `all` returns is whether all holds are in range.
use mathlib.Core.Path.{ap, ◌∙◌}
use borrow.Author.Rules.{rules}
use Rattle.model.specs.Searches.{all}
use Rattle.model.specs.Formed.{hold_in_range}
use Rattle.lists.specs.Lists.{hold_of, held_in}
use Rattle.lists.proofs.Chains.{all_of}
use Rattle.lists.proofs.holds.Holds.in_range.Goals as goal

pub returns : goal.returns
returns c =
    let p = hold_in_range c.args.threads c.args.sections in
    all_of hold_of (λ s. held_in s.left s.sections s.threads) p c.all.ensures.ran (λ x b h k. search rules) ∙ ap (all p) c.iter.ensures
