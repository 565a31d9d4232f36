-- `find_heir` meets its contract: the heir kept so far and the waits left give the heir, and whether all holds left let it is whether all do.
use mathlib.Core.Path.{refl, ap, ◌∙◌}
use native.Mathlib.Omega.{arith}
use Rattle.model.specs.Searches.{first_greatest}
use Rattle.lists.specs.Words.{nibbles, entry_of}
use Rattle.lists.specs.Lists.{queued, held}
use Rattle.lists.proofs.Queues.{overtaken, nobody}
use Rattle.lists.proofs.Holdings.{hold_small}
use Rattle.lists.proofs.Heirs.{found_heir}
use Rattle.lists.proofs.Laws.{nibbles_small}
use Rattle.lists.proofs.choice.find_heir.Goals as goal

pub waits-init : goal.waits-init
waits-init c =
    let base = entry_of c.args.bases in
    let e = ap (λ k. nibbles k.left k.rest) c.into_iter-t-iterator.ensures.into_iter_gives ∙ c.iter-t-items.ensures in
    (ap (λ l. overtaken base 255 0 (first_greatest base l)) e ∙ nobody base (queued c.args.waits) c.requires.2.at, refl)

pub bounds-ceilings-h : goal.bounds-ceilings-h
bounds-ceilings-h c = (hold_small _ _ _ c.in-Some-h.ensures.steps).0

pub returns : goal.returns
returns c =
    let a = c.args in
    let w = c.waits in
    found_heir (entry_of a.bases) a.ceilings.now (held a.holds) (queued a.waits) w.who w.free w.top (λ t i. omega (arith, nibbles_small a.waits.count a.waits.items t i))
    (rw c.in-None.ensures.steps.0 at w.invariant)
