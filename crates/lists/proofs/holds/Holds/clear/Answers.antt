-- `Holds::clear` meets its contract: what `all` returns is whether each hold is the thread's own or of a ceiling below the base.
use mathlib.Core.Path.{ap, ◌∙◌}
use mathlib.Core.Bool.{◌||◌}
use borrow.Author.Rules.{rules}
use lib.Dec.{ltb}
use Rattle.model.specs.Searches.{all}
use Rattle.model.specs.State as state
use Rattle.lists.specs.Lists.{hold_of, held_in, held, ceiling_in}
use Rattle.lists.proofs.Holdings.{is_of_thread, all_others}
use Rattle.lists.proofs.Chains.{all_of}
use Rattle.lists.proofs.holds.Holds.clear.Goals as goal

pub returns : goal.returns
returns c =
    let a = c.args in
    let f = λ (h : state.Hold). ltb (ceiling_in a.ceilings.now h) a.base in
    let p = λ (h : state.Hold). is_of_thread a.thread h || f h in
    all_of hold_of (λ s. held_in s.left s.sections s.threads) p c.all.ensures.ran (λ x b h k. search rules) ∙ ap (all p) c.iter.ensures
    ∙ all_others (is_of_thread a.thread) f (held a.self)
