-- `Holds::others` meets its contract: the holds kept, and behind them those left that pass the test, are all that pass it.
use mathlib.Core.Path.{◌≡◌, ap, sym, ◌∙◌}
use mathlib.Core.Bool.{not, true}
use mathlib.Core.List.{◌∷◌, ◌++◌}
use native.Mathlib.Omega.{arith}
use lib.ListN.{length, length-append}
use Rattle.model.specs.Searches.{filter}
use Rattle.model.specs.State as state
use Rattle.model.specs.State.{is_hold}
use Rattle.lists.specs.Lists.{hold_of, held_in, held}
use Rattle.lists.proofs.Holdings.{hold_small, times_bound}
use Rattle.lists.proofs.Laws.{length-held}
use Rattle.lists.proofs.holds.Holds.others.Goals as goal

pub behind-kept-requires : goal.behind-kept-requires
behind-kept-requires c =
    let a = c.args in
    let stays = λ (h : state.Hold). not (is_hold a.section a.thread h) in
    let k = hold_small _ _ _ c.in-Some.ensures.steps in
    let e : stays (hold_of c.in-Some.h) ≡ true = sym c.ne.ensures ∙ c.if-ne.true in
    let n = c.next.new.self in
    let f : held c.loop-h.kept ++ (hold_of c.in-Some.h ∷ filter stays (held_in n.left n.sections n.threads)) ≡ filter stays (held a.self) = rw (c.in-Some.ensures.steps, e) at c.loop-h.invariant in
    (omega (arith, c.requires, length-held a.self, length-held c.loop-h.kept, simp length-append at (ap length f), times_bound stays (held a.self)), k.0, k.1)
