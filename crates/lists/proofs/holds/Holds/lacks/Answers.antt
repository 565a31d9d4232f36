-- `Holds::lacks` meets its contract: what `any` returns is whether any hold is the one asked for.
use mathlib.Core.Path.{ap, ◌∙◌}
use mathlib.Core.Bool.{not}
use borrow.Author.Rules.{rules}
use Rattle.model.specs.Searches.{any}
use Rattle.model.specs.State.{is_hold}
use Rattle.lists.specs.Lists.{hold_of, held_in}
use Rattle.lists.proofs.Chains.{any_of}
use Rattle.lists.proofs.holds.Holds.lacks.Goals as goal

pub returns : goal.returns
returns c =
    let p = is_hold c.args.section c.args.thread in
    ap not (any_of hold_of (λ s. held_in s.left s.sections s.threads) p c.any.ensures.ran (λ x b h k. search rules) ∙ ap (any p) c.iter.ensures)
