-- `shown` meets its contract: the number of the chosen thread is compared with the one reported.
use mathlib.Core.Path.{ap, ◌∙◌}
use native.Mathlib.Omega.{arith}
use lib.Dec.{eqb}
use Rattle.model.specs.Priorities.{chosen}
use Rattle.model.proofs.Laws.{chosen_is}
use Rattle.machine.specs.View.{plan_of, idle}
use Rattle.machine.specs.Clauses.{Chooses}
use Rattle.machine.proofs.Laws.{asks_chosen}
use Rattle.formed.proofs.Outside.{is_reported}
use Rattle.formed.proofs.formed.shown.Goals as goal
use Rattle.formed.proofs.formed.shown.Goals.{Start}

chooses : (s : goal.Start) → Chooses s.args.m
chooses s = asks_chosen s.args.m s.requires.0 s.requires.1

pub chosen-requires : goal.chosen-requires
chosen-requires c = chooses (goal.at.chosen-requires c).Start

pub returns : goal.returns
returns c =
    let m = c.args.m in
    let l = (chooses (goal.at.returns c).Start).listed in
    ap (λ n. eqb n m.reported) c.chosen.ensures
    ∙ is_reported (chosen (plan_of m) (idle m)) m.reported (λ t e. omega (arith, l.known t (chosen_is (plan_of m) (idle m) t e).0, l.threads'))
