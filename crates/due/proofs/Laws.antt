-- What other crates may cite of the reports due.

-- what a report of the code stands for, by the number of its kind
pub use Rattle.due.proofs.ReportKinds.{by_kind, switches, switches_not, is_report_lem, names_one, kind_is, switch_to_lem, same_operand, switch_is, expire_is}
-- the array of reports is as long as it is declared, and as many reports are due as the list of them has
pub use Rattle.due.proofs.Sized.{reports_size}
pub use Rattle.due.proofs.Places.{length-owed, drop-next, none_due, first_due, next_due, in_due, within, due_slice}
