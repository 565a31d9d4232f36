-- `first_due` meets its contract: in a well-formed state the report behind those given is in the array, and one of the papers'.
use mathlib.Core.Path.{◌≡◌, ap, sym, ◌∙◌}
use mathlib.Core.List.{◌∷◌, tail}
use Prim.Native.Nat.{ℕ, ◌<◌}
use native.Mathlib.Omega.{arith}
use lib.ListN.{length, get_or}
use Rattle.due.specs.declared.reports.Report.{Report}
use Rattle.machine.specs.declared.state.State.{State}
use Rattle.due.specs.Lists.{report_room, report_of, no_report}
use Rattle.machine.specs.Clauses.{Owes}
use Rattle.machine.proofs.Sized.{due_size}
use Rattle.due.proofs.Laws.{first_due}
use Rattle.machine.proofs.Owing.{due_known, due_fits, owing}
use Rattle.machine.proofs.state.State.first_due.Goals as goal
use Rattle.machine.proofs.state.State.first_due.Goals.{Start}

-- the first report due is in the array
in_array : (s : State) → Owes s → length s.due.items ≡ report_room → s.given < report_room
in_array s o size = let h = owing s o.formed' o.due' in omega (arith, h, due_fits s o.formed' size h)

pub offset_bounds-due-at : goal.offset_bounds-due-at
offset_bounds-due-at c = record { fits = omega (arith, in_array c.args.self c.requires (due_size c.args.self c.well_formed.0)) }

pub bounds-due-at : goal.bounds-due-at
bounds-due-at c = in_array c.args.self c.requires (due_size c.args.self c.well_formed.0)

pub returns : goal.returns
returns c =
    let q = c.args.self in
    let h = owing q c.requires.formed' c.requires.due' in
    let at : ℕ → Report = λ i. get_or q.due.items i no_report in
    let e = first_due at q.due.count q.given h in
    record { kind' = due_known q.machine at q.due.count q.given c.requires.formed' q.given (omega arith) h; first = e ∙ ap (λ l. report_of (get_or q.due.items q.given no_report) ∷ l) (sym (ap tail e)) }
