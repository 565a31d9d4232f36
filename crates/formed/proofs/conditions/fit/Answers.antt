-- `fit` meets its contract: where nobody waits the tick numbers decide, and else every thread is asked.
use mathlib.Core.Path.{sym, ◌∙◌}
use Rattle.formed.proofs.Calm.{calm_stood, calm_range}
use Rattle.formed.proofs.conditions.fit.Goals as goal
use Rattle.formed.proofs.conditions.fit.Goals.{Start}

pub returns-then-none_later : goal.returns-then-none_later
returns-then-none_later c =
    let m = c.args.m in
    sym (calm_range m.slots m.wakes m.plan.threads m.plan.sections c.requires.0.fits.threads (calm_stood m c.requires.1 c.if-calm.true) (sym c.none_later.ensures ∙ c.if-none_later.true))
