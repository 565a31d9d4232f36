-- `Queue::rivalled` meets its contract: what `any` returns is whether any that the queue yields passes.
use mathlib.Core.Path.{ap, ◌∙◌}
use mathlib.Core.Bool.{Bool, not, ◌&&◌}
use Prim.Native.Nat.{ℕ}
use borrow.Author.Rules.{rules}
use lib.Dec.{eqb}
use Rattle.model.specs.Searches.{any}
use Rattle.lists.specs.Words.{nibbles, entry_of}
use Rattle.lists.specs.Lists.{current_in}
use Rattle.lists.proofs.Chains.{any_of}
use Rattle.lists.proofs.queue.Queue.rivalled.Goals as goal

-- another thread of the same value
abbrev rival : (value : ℕ → ℕ) (thread t : ℕ) → Bool
rival value thread t = not (eqb t thread) && eqb (value t) (value thread)

pub returns : goal.returns
returns c =
    let a = c.args in
    let p = rival (current_in (entry_of a.bases) a.owner a.urgency) a.thread in
    any_of (λ t. t) (λ s. nibbles s.left s.rest) p c.any.ensures.ran (λ x b h k. search rules)
    ∙ ap (any p) c.iter.ensures
