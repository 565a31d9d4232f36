-- The bytes that document 01 gives for run A are printed as it says.
use mathlib.Core.Path.{◌≡◌, ap, ◌∙◌}
use mathlib.Core.List.{◌++◌}
use Rattle.plan.specs.Known.{plan_a_bytes}
use Rattle.monitor.specs.Known.{dump_a_bytes}
use Rattle.monitor.proofs.Laws.{run_a_lem}
use Rattle.streams.specs.Text.{ascii}
use Rattle.streams.proofs.Laws.{decimal_by_tenth}
use Rattle.watch.specs.Printed.{line_of, printed}

pub run_a_printed : printed (plan_a_bytes ++ dump_a_bytes) ≡ ascii "clean 17 0\n"
run_a_printed = ap line_of run_a_lem ∙ rw (decimal_by_tenth 17, decimal_by_tenth 1, decimal_by_tenth 0)
