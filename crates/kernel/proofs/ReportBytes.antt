-- The operand under which a report of the machine is written is the one that it has.
use mathlib.Core.Path.{◌≡◌}
use mathlib.Core.Logic.{◌⊎◌, inl, inr, ◌≢◌}
use borrow.Author.Tests.{ne_eqb}
use Prim.Native.Nat.{ℕ}
use Rattle.model.specs.Records.{report, nobody, operand_number, operand_thread}
use Rattle.model.proofs.Tests.{equal?}
use Rattle.due.specs.declared.reports.Report.{Report}
use Rattle.due.specs.Lists.{report_of, IsReport}
use Rattle.due.proofs.Laws.{by_kind}
use Rattle.dump.specs.Layout.{operand_of}

-- the thread that a Switch names, and back
named_back : (n : ℕ) → n ≡ operand_number (operand_thread n)
named_back n = go (equal? n nobody)
  where
    go : (n ≡ nobody) ⊎ (n ≢ nobody) → n ≡ operand_number (operand_thread n)
    go (inl e) = rw e
    go (inr d) = rw (ne_eqb n nobody d)

pub operand_is : (r : Report) → IsReport r → r.operand ≡ operand_of (report (report_of r))
operand_is r i =
    by_kind r (r.operand ≡ operand_of (report (report_of r)))
    (λ e. rw e) (λ e. rw e (named_back r.operand)) (λ e. rw e) (λ e. rw e) (λ e. rw e) (λ e. rw e) (λ e. rw e)
    (λ n e. absurd (n i))
