-- `delivered` meets its contract: the first report is due no longer, and a Switch given names the thread reported.
use mathlib.Core.Path.{◌≡◌, refl, ap, sym, subst, ◌∙◌}
use mathlib.Core.List.Memᴰ.{head as here}
use mathlib.Core.List.{Memᴰ as Mem}
use Prim.Native.Nat.{ℕ, ◌+◌, ◌%◌}
use native.Mathlib.Omega.{arith}
use lib.ListN.{drop}
use Rattle.model.specs.Records.{operand_thread}
use Rattle.model.specs.State.{switched_to}
use Rattle.model.proofs.Laws.{well_formed}
use Rattle.plan.proofs.Laws.{threads_view, valid_fits}
use Rattle.due.specs.declared.reports.Report.{Report}
use Rattle.machine.specs.declared.Machine.{Machine}
use Rattle.machine.specs.declared.state.State.{State}
use Rattle.due.specs.Lists.{thread_of, report_of, owed}
use Rattle.machine.specs.View.{plan_of, viewed, view}
use Rattle.machine.specs.Clauses.{Owes, FirstDue, Delivers}
use Rattle.machine.proofs.Sized.{due_size}
use Rattle.machine.proofs.Views.{sized}
use Rattle.machine.proofs.Meets.{alike}
use Rattle.due.proofs.Laws.{switches, switches_not, names_one, drop-next}
use Rattle.machine.proofs.Owing.{due_fits, owing}
use Rattle.machine.proofs.state.State.delivered.Goals as goal
use Rattle.machine.proofs.state.State.delivered.Goals.{Start, else-given-eq17, then-given-eq17}

pub overflow_add-result : goal.overflow_add-result
overflow_add-result c =
    let q = c.args.self in
    let o = c.requires.0 in
    let h = owing q o.formed' o.due' in
    record { fits = omega (arith, h, due_fits q o.formed' (due_size q c.well_formed.0) h) }

-- the machine with this thread reported
abbrev told : Machine → ℕ → Machine
told m n = record { plan = m.plan; tick = m.tick; slots = m.slots; wakes = m.wakes; queue = m.queue; holds = m.holds; waits = m.waits; delays = m.delays; reported = n; timers = m.timers }

-- with one more report given it is what the model delivers
delivers : (s : State) (r : Report) (n : ℕ) {m : Machine} → m ≡ told s.machine n → thread_of n ≡ switched_to (thread_of s.machine.reported) (report_of r)
    → Delivers (record { machine = m; due = s.due; given = s.given + 1 }) s r
delivers s r n e q =
    record {
      plan' = ap (λ (m : Machine). m.plan) e;
      holds' = ap (λ (m : Machine). m.holds) e;
      seen = ap (λ m. viewed m (drop (s.given + 1) (owed s.due))) e ∙ alike refl refl refl refl refl refl q (drop-next s.given (owed s.due)) refl;
    }

-- the low byte of a Switch that is due is the thread that it names
low_byte : (s : State) (r : Report) → Owes s → FirstDue r s → r.kind ≡ 17 → thread_of (r.operand % 256) ≡ operand_thread r.operand
low_byte s r o f k =
    let p = plan_of s.machine in
    let w = well_formed p (view s) (sized s.machine) o.formed' in
    names_one r p (omega (arith, threads_view s.machine.plan, (valid_fits s.machine.plan w.standing.valid).threads)) (w.known (report_of r) (subst (λ l. Mem (report_of r) l) (sym f.first) (here refl))) k

pub returns : goal.returns
returns c =
    let s = c.args.self in
    let r = c.args.given in
    elim c.if-given-eq17.branch [ then-given-eq17 w ↦ delivers s r (r.operand % 256) w.m-is (low_byte s r c.requires.0 c.requires.1 w.if-given-eq17.true ∙ sym (switches r (thread_of s.machine.reported) w.if-given-eq17.true)) | else-given-eq17 w ↦ delivers s r s.machine.reported w.m-is (sym (switches_not r (thread_of s.machine.reported) w.if-given-eq17.false)) ]
