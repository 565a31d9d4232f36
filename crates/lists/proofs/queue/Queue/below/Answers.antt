-- `Queue::below` meets its contract: what `all` returns is whether all that the queue yields pass.
use mathlib.Core.Path.{ap, ◌∙◌}
use borrow.Author.Rules.{rules}
use lib.Dec.{ltb}
use Rattle.model.specs.Formed.{are_threads}
use Rattle.lists.specs.Words.{nibbles}
use Rattle.lists.proofs.Chains.{all_of}
use Rattle.lists.proofs.queue.Queue.below.Goals as goal

pub returns : goal.returns
returns c =
    all_of (λ t. t) (λ s. nibbles s.left s.rest) (λ t. ltb t c.args.threads) c.all.ensures.ran (λ x b h k. search rules)
    ∙ ap (are_threads c.args.threads) c.iter.ensures
