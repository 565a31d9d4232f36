-- `Reports::due` meets its contract: those from the first that is not given up to the count.
use native.Mathlib.Omega.{arith}
use lib.ListN.{length}
use mathlib.Core.Path.{◌≡◌}
use borrow.Author.Rules.{rules}
use Rattle.due.proofs.Places.{due_slice, none_left}
use Rattle.due.proofs.reports.Reports.due.Goals as goal

pub returns-then-given-n : goal.returns-then-given-n
returns-then-given-n c = due_slice c.args.self.now c.args.given (omega arith) (let h : length c.args.self.now.items ≡ 25 = search rules in omega (arith, c.requires))

pub returns-else-given-n : goal.returns-else-given-n
returns-else-given-n c = none_left c.args.self.now c.args.given c.if-given-n.false
