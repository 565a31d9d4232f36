-- What a machine keeps beside the state that it stands for. The view does not show it, so that it says the same is asked apart.
use Rattle.std.specs.Prelude.{Bool, ◌&&◌}
use Rattle.model.specs.Formed.{formed}
use Rattle.keeping.specs.Top.{top_fits}
use Rattle.lists.specs.Lists.{held, top_of}
use Rattle.machine.specs.declared.Machine.{Machine}
use Rattle.machine.specs.declared.state.State.{State}
use Rattle.machine.specs.View.{plan_of, view}

-- the owner and the greatest held ceiling are the walk's result
abbrev pub kept : Machine → Bool
kept m = top_fits (plan_of m) (held m.holds) (top_of m.holds.top)

-- the answer is not 12: the state that it stands for is well formed, and what is kept says the same
abbrev pub sound : State → Bool
sound s = formed (plan_of s.machine) (view s) && kept s.machine
