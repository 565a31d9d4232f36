-- `fresh` meets its contract: a state at its start is what the model makes of its plan.
use mathlib.Core.Path.{◌≡◌, ap, ◌∙◌}
use mathlib.Core.Option.{none}
use Rattle.model.specs.State as state
use Rattle.keeping.specs.Top.{walk_by, walk}
use Rattle.keeping.proofs.Laws.{fits_walk}
use Rattle.plan.specs.declared.Plan.{Plan}
use Rattle.plan.specs.View.{view}
use Rattle.lists.specs.Lists.{held, top_of}
use Rattle.machine.specs.declared.state.State.{State}
use Rattle.machine.specs.Clauses.{Fresh}
use Rattle.live.specs.Watching.{fresh}
use Rattle.live.specs.Clauses.{seen}
use Rattle.live.proofs.live.fresh.Goals as goal

-- a state at its start is what the model makes of its plan
made : (s : State) (p : Plan) → Fresh s p → seen (record { state = s; rule = 0 }) ≡ fresh (view p)
unfolding walk_by
made s p f = (λ i. record { plan = view (f.plan' i); state = f.seen i; top = nothing_held i; rule = 0 })
  where
    -- what is kept is the walk's result, and nothing is held
    nothing_held : top_of s.machine.holds.top ≡ record { owner = none; ceiling = 0 }
    nothing_held = fits_walk (view s.machine.plan) (held s.machine.holds) (top_of s.machine.holds.top) f.keeps ∙ ap (λ (st : state.State). walk (view s.machine.plan) st.holds) f.seen

pub returns : goal.returns
returns c = made c.fresh.result c.args.plan c.fresh.ensures
