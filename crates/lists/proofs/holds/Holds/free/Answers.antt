-- `Holds::free` meets its contract: what `any` returns is whether any hold is the thread's.
use mathlib.Core.Path.{ap, ◌∙◌}
use mathlib.Core.Bool.{not}
use borrow.Author.Rules.{rules}
use Rattle.model.specs.Searches.{any}
use Rattle.lists.specs.Lists.{hold_of, held_in}
use Rattle.lists.proofs.Holdings.{is_of_thread}
use Rattle.lists.proofs.Chains.{any_of}
use Rattle.lists.proofs.holds.Holds.free.Goals as goal

pub returns : goal.returns
returns c =
    let p = is_of_thread c.args.thread in
    ap not (any_of hold_of (λ s. held_in s.left s.sections s.threads) p c.any.ensures.ran (λ x b h k. search rules) ∙ ap (any p) c.iter.ensures)
