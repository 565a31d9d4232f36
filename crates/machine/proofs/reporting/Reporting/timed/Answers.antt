-- `timed` meets its contract: with the timers that the model sets and the reports that the call made, the same thread is chosen.
use Rattle.machine.specs.View.{reports_in}
use Rattle.machine.proofs.Timed.{sets, timer_answers}
use Rattle.machine.proofs.reporting.Reporting.timed.Goals as goal
use Rattle.machine.proofs.reporting.Reporting.timed.Goals.{After-making, Start}

pub making-requires : goal.making-requires
making-requires c = tt

pub returns : goal.returns
returns c =
    let a = c.args in
    λ t q. rw c.owing.ensures (timer_answers q.sets (sets a.self.machine q.sets.asks.stands.keeps t a.timers (reports_in c.making.result) q.rule' q.timers' (c.making.ensures.stored.stored _ q.made')))
