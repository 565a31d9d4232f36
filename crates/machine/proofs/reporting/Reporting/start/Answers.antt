-- `start` meets its contract: the arming goes on with a start.
use mathlib.Core.Path.{◌∙◌}
use Rattle.std.specs.Prelude.{is_ok}
use Rattle.model.specs.Records as records
use Rattle.machine.proofs.Asking.{start_rule}
use Rattle.machine.proofs.Facts.{facts}
use Rattle.machine.proofs.Outcomes.{caller_asked}
use Rattle.machine.proofs.Timed.{no_late}
use Rattle.machine.proofs.reporting.Reporting.start.Goals as goal
use Rattle.machine.proofs.reporting.Reporting.start.Goals.{After-none, After-run_rule-rule, After-started, Start}

pub run_rule-rule-requires : goal.run_rule-rule-requires
run_rule-rule-requires c = tt

pub started-requires : goal.started-requires
started-requires c = let a = caller_asked c.requires in record { known = (facts a.formed).arming; stage' = a.ordered }

pub none-requires : goal.none-requires
none-requires c = tt

pub timed-requires : goal.timed-requires
timed-requires c = c.none.ensures.few

pub returns : goal.returns
returns c =
    let i = c.args.number in
    c.timed.ensures (records.Start i)
    (record { sets = c.requires; rule' = c.run_rule-rule.ensures ∙ start_rule (caller_asked c.requires) i; timers' = rw c.is_ok.ensures.value at c.started.ensures; made' = no_late c.none.ensures (is_ok c.run_rule-rule.result) })
