-- `keeps` meets its contract: the pair is compared with what a walk finds, with the ceilings of the plan.
use mathlib.Core.Path.{◌≡◌, ap, sym, ◌∙◌}
use mathlib.Core.Bool.{◌&&◌}
use borrow.Author.Tests.{eq-eqb, ne_eqb}
use lib.Dec.{eqb}
use Rattle.keeping.specs.Top.{walk_by, walk}
use Rattle.plan.proofs.Laws.{valid_fits}
use Rattle.lists.specs.Lists.{held, top_of}
use Rattle.machine.specs.View.{plan_of}
use Rattle.machine.proofs.Laws.{machine_facts, counts_within, ceilings_are}
use Rattle.formed.proofs.Keeping.{compared}
use Rattle.formed.proofs.kept.keeps.Goals as goal
use Rattle.formed.proofs.kept.keeps.Goals.{After-all-1, After-walk-found, Start, Then-top-found}

pub ceilings-all-requires : goal.ceilings-all-requires
ceilings-all-requires c = valid_fits c.args.m.plan (machine_facts c.args.m c.requires).valid

pub walk-found-requires : goal.walk-found-requires
walk-found-requires c = (counts_within c.args.m c.requires).holds'

walked : (c : goal.After-walk-found) → (let m = c.args.m in top_of c.walk-found.result ≡ walk (plan_of m) (held m.holds))
walked c =
    let m = c.args.m in
    c.walk-found.ensures ∙ ap (λ g. walk_by g (held m.holds)) (ceilings_are m (machine_facts m c.requires).valid c.ceilings-all.ensures)

pub returns-then-top-found : goal.returns-then-top-found
returns-then-top-found c =
    let m = c.args.m in
    sym (ap (λ b. b && eqb m.holds.top.ceiling c.walk-found.result.ceiling) (eq-eqb _ _ c.if-top-found.true))
    ∙ compared (plan_of m) (held m.holds) m.holds.top c.walk-found.result (walked (goal.at.returns-then-top-found c).After-walk-found)

pub returns-else-top-found : goal.returns-else-top-found
returns-else-top-found c =
    let m = c.args.m in
    ne_eqb _ _ c.if-top-found.false
    ∙ sym (ap (λ b. b && eqb m.holds.top.ceiling c.walk-found.result.ceiling) (ne_eqb _ _ c.if-top-found.false))
    ∙ compared (plan_of m) (held m.holds) m.holds.top c.walk-found.result (walked (goal.at.returns-else-top-found c).After-walk-found)
