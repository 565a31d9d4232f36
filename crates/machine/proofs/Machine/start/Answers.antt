-- `Machine::start` meets its contract: empty lists, and slots that are all dormant.
use mathlib.Core.Path.{refl}
use lib.ListN.{replicate}
use Rattle.plan.proofs.Laws.{threads_view}
use Rattle.plan.specs.View as plans
use Rattle.machine.proofs.Conditions.{all_dormant}
use Rattle.machine.proofs.Keeping.{keeps_none}
use Rattle.machine.proofs.Machine.start.Goals as goal

pub returns : goal.returns
returns c =
    let p = c.args.plan in
    record {
      plan' = refl;
      seen = rw (threads_view p, all_dormant p.threads (replicate 16 (record { 0 = 0 })), c.none.ensures, c.none-2.ensures.0, c.none-3.ensures, c.none-4.ensures, c.none-5.ensures);
      keeps = let h = c.none-2 in keeps_none (plans.view p) h.result h.ensures.0 h.ensures.1;
    }
