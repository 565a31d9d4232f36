-- `arm` meets its contract: an arming has begun.
use mathlib.Core.Path.{◌∙◌}
use Rattle.std.specs.Prelude.{is_ok}
use Rattle.model.specs.Records as records
use Rattle.machine.proofs.Asking.{arm_rule}
use Rattle.machine.proofs.Outcomes.{caller_asked}
use Rattle.machine.proofs.Timed.{no_late}
use Rattle.machine.proofs.reporting.Reporting.arm.Goals as goal
use Rattle.machine.proofs.reporting.Reporting.arm.Goals.{After-begun, After-none, After-run_rule-rule, Start}

pub run_rule-rule-requires : goal.run_rule-rule-requires
run_rule-rule-requires c = tt

pub begun-requires : goal.begun-requires
begun-requires c = tt

pub none-requires : goal.none-requires
none-requires c = tt

pub timed-requires : goal.timed-requires
timed-requires c = c.none.ensures.few

pub returns : goal.returns
returns c =
    let i = c.args.timer in
    c.timed.ensures (records.Arm i)
    (record { sets = c.requires; rule' = c.run_rule-rule.ensures ∙ arm_rule (caller_asked c.requires) i; timers' = rw c.is_ok.ensures.value at c.begun.ensures; made' = no_late c.none.ensures (is_ok c.run_rule-rule.result) })
