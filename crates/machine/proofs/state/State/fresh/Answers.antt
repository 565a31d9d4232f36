-- `fresh` meets its contract: a machine at its start, and no report.
use mathlib.Core.Path.{ap, ◌∙◌}
use Rattle.machine.specs.View.{viewed}
use Rattle.machine.proofs.state.State.fresh.Goals as goal

pub returns : goal.returns
returns c =
    let m = c.start in
    record { plan' = m.ensures.plan'; seen = ap (viewed m.result) c.none.ensures ∙ m.ensures.seen; keeps = m.ensures.keeps }
