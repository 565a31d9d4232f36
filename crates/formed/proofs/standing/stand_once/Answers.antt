-- `stand_once` meets its contract: where all sixteen threads stand where their conditions say, those of the plan do.
use mathlib.Core.Path.{sym, ◌∙◌}
use Rattle.model.proofs.Tests.{from_true}
use Rattle.lists.specs.Lists.{queued}
use Rattle.formed.specs.Clauses.{all_stand}
use Rattle.formed.proofs.Bits.{all_listed}
use Rattle.formed.proofs.standing.stand_once.Goals as goal

pub returns-then-all_stand : goal.returns-then-all_stand
returns-then-all_stand c =
    let m = c.args.m in
    sym (all_listed m.plan.threads m.slots.states (queued m.queue) (queued m.waits) (queued m.delays) c.requires.fits.threads (from_true (all_stand m.slots.states (queued m.queue) (queued m.waits) (queued m.delays)) (sym c.all_stand.ensures ∙ c.if-all_stand.true)))
