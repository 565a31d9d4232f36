-- `cancel` meets its contract: a timer that is armed is armed no longer.
use mathlib.Core.Path.{◌∙◌}
use lib.Dec.{ltb→lt}
use Rattle.std.specs.Prelude.{is_ok}
use Rattle.model.specs.Records as records
use Rattle.machine.proofs.Asking.{cancel_rule_lem}
use Rattle.machine.proofs.Outcomes.{caller_asked}
use Rattle.machine.proofs.Timed.{no_late}
use Rattle.machine.proofs.reporting.Reporting.cancel.Goals as goal
use Rattle.machine.proofs.reporting.Reporting.cancel.Goals.{After-cancel_rule-rule, After-cancelled, After-none, Start}

pub cancel_rule-rule-requires : goal.cancel_rule-rule-requires
cancel_rule-rule-requires c = ltb→lt c.args.timer 8 c.requires.asks.allowed'

pub cancelled-requires : goal.cancelled-requires
cancelled-requires c = ltb→lt c.args.timer 8 c.requires.asks.allowed'

pub none-requires : goal.none-requires
none-requires c = tt

pub timed-requires : goal.timed-requires
timed-requires c = c.none.ensures.few

pub returns : goal.returns
returns c =
    let i = c.args.timer in
    c.timed.ensures (records.Cancel i)
    (record { sets = c.requires; rule' = c.cancel_rule-rule.ensures ∙ cancel_rule_lem (caller_asked c.requires) i; timers' = rw c.is_ok.ensures.value at c.cancelled.ensures; made' = no_late c.none.ensures (is_ok c.cancel_rule-rule.result) })
