-- `chosen_of` meets its contract: the owner's number and the urgency that it finds tell every current priority.
use mathlib.Core.Path.{ap, ◌∙◌}
use native.Mathlib.Omega.{arith}
use Rattle.lists.specs.Words.{entry_of}
use Rattle.lists.specs.Lists.{numbered, queued}
use Rattle.lists.proofs.Laws.{nibbles_small}
use Rattle.lists.proofs.Current.{chosen_by}
use Rattle.lists.proofs.choice.chosen_of.Goals as goal

pub chosen-requires : goal.chosen-requires
chosen-requires c = let k = c.requires in (k.0, k.2)

pub returns : goal.returns
returns c =
    let a = c.args in
    let base = entry_of a.bases in
    rw c.urgency-urgency.ensures at c.chosen.ensures ∙ ap numbered (chosen_by base a.owner (queued a.waits) (queued a.queue) (λ t i. omega (arith, nibbles_small a.queue.count a.queue.items t i)))
