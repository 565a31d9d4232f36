-- `rivalled_of` meets its contract: the owner's number and the urgency that it finds tell every current priority.
use mathlib.Core.Path.{◌∙◌}
use native.Mathlib.Omega.{arith}
use Rattle.lists.specs.Words.{entry_of}
use Rattle.lists.specs.Lists.{queued}
use Rattle.lists.proofs.Laws.{nibbles_small}
use Rattle.lists.proofs.Current.{rivalled_by}
use Rattle.lists.proofs.choice.rivalled_of.Goals as goal
use Rattle.lists.proofs.choice.rivalled_of.Goals.{Start}

pub rivalled-requires : goal.rivalled-requires
rivalled-requires c = let k = c.requires in (k.0, k.2)

pub returns : goal.returns
returns c =
    let a = c.args in
    let base = entry_of a.bases in
    rw c.urgency-urgency.ensures at c.rivalled.ensures
    ∙ rivalled_by base a.owner (queued a.waits) (queued a.queue) (λ t i. omega (arith, nibbles_small a.queue.count a.queue.items t i)) a.thread (omega (arith, c.requires.2))
