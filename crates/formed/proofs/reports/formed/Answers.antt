-- `reports::formed` meets its contract: how many are due, whether each is a report of the papers', whether a Switch is last, and then the room for reports.
use mathlib.Core.Path.{◌≡◌, ap, ◌∙◌}
use mathlib.Core.Bool.{not}
use mathlib.Core.List.{map}
use Prim.Native.Nat.{◌+◌, ◌-◌, ◌≤◌}
use native.Mathlib.Omega.{arith}
use borrow.Author.Tests.{ltb-true}
use lib.Dec.{leb}
use lib.ListN.{length, take, drop, length-drop}
use Rattle.model.specs.Searches.{up_to}
use Rattle.model.specs.Records.{timer_count, is_switch}
use Rattle.model.specs.Formed.{owed_none}
use Rattle.model.specs.State.{without_switch}
use Rattle.model.proofs.Loops.{filter-few}
use Rattle.clock.specs.View as timing
use Rattle.due.specs.Lists.{report_room, report_of, owed}
use Rattle.due.proofs.Laws.{reports_size, length-owed}
use Rattle.formed.proofs.Slices.{due_of}
use Rattle.formed.proofs.Reported.{too_many, past_end, in_turn, asked_in_turn}
use borrow.Author.Rules.{rules}
use Rattle.formed.proofs.reports.formed.Goals as goal
use Rattle.formed.proofs.reports.formed.Goals.{After-but_switch, After-owed_none, then-n-gt-ROOM-via-else-n-gt-ROOM+then-most-n, then-n-gt-ROOM-via-then-n-gt-ROOM}

pub returns-then-n-gt-ROOM : goal.returns-then-n-gt-ROOM
returns-then-n-gt-ROOM c =
    let a = c.args in
    elim c.then-n-gt-ROOM.branch [ then-n-gt-ROOM-via-then-n-gt-ROOM w ↦ past_end a.m a.reports a.given c.requires.2 c.requires.0 (reports_size a.reports c.well_formed.0) w.if-n-gt-ROOM.true | then-n-gt-ROOM-via-else-n-gt-ROOM+then-most-n w ↦ too_many a.m a.reports a.given c.requires.2 (ltb-true _ _ w.if-most-n.true-raw) ]

pub all_reports-requires : goal.all_reports-requires
all_reports-requires c = c.requires.0

others-few : (b : goal.After-but_switch) → b.but_switch.result ≤ 25
others-few b =
    let a = b.args in
    let due = due_of a.reports a.given (omega (arith, b.requires.2)) (omega (arith, (let it : a.reports.count ≤ report_room = b.if-n-gt-ROOM.false in it), reports_size a.reports b.well_formed.0)) in
    omega (arith, b.but_switch.ensures ∙ ap (λ l. length (without_switch l)) due, filter-few (λ d. not (is_switch d)) (drop a.given (owed a.reports)), length-drop a.given (owed a.reports), length-owed a.reports, (let it : b.args.reports.count ≤ report_room = b.if-n-gt-ROOM.false in it))

pub overflow_add-result : goal.overflow_add-result
overflow_add-result c = record { fits = omega (arith, others-few (goal.at.overflow_add-result c).After-but_switch, c.requires.1) }

timers-few : (o : goal.After-owed_none) → o.owed_none.result ≤ 8
timers-few o =
    let a = o.args in
    omega (arith, o.owed_none.ensures, filter-few (owed_none (timing.view a.m.timers) (drop a.given (owed a.reports))) (up_to timer_count))

pub overflow_add-result-then-switch_last : goal.overflow_add-result-then-switch_last
overflow_add-result-then-switch_last c =
    let k = goal.at.overflow_add-result-then-switch_last c in
    record { fits = omega (arith, others-few k.After-but_switch, timers-few k.After-owed_none, c.requires.1) }

pub overflow_add-result-then-switch_last-2 : goal.overflow_add-result-then-switch_last-2
overflow_add-result-then-switch_last-2 c =
    let k = goal.at.overflow_add-result-then-switch_last-2 c in
    record { fits = omega (arith, others-few k.After-but_switch, timers-few k.After-owed_none, c.requires.1) }

pub returns-then-switch_last : goal.returns-then-switch_last
returns-then-switch_last c =
    let a = c.args in
    let due = due_of a.reports a.given (omega (arith, c.requires.2)) (omega (arith, (let it : a.reports.count ≤ report_room = c.if-n-gt-ROOM.false in it), reports_size a.reports c.well_formed.0)) in
    let e : leb (c.but_switch.result + a.m.delays.count + c.owed_none.result + 1) (a.m.plan.threads + 9) ≡ in_turn a.m a.reports a.given c.requires.2 (map report_of (take (a.reports.count - a.given) (drop a.given a.reports.items))) = search rules in
    e ∙ ap (in_turn a.m a.reports a.given c.requires.2) due ∙ asked_in_turn a.m a.reports a.given c.requires.2 c.if-most-n.false

pub returns-else-switch_last : goal.returns-else-switch_last
returns-else-switch_last c =
    let a = c.args in
    let due = due_of a.reports a.given (omega (arith, c.requires.2)) (omega (arith, (let it : a.reports.count ≤ report_room = c.if-n-gt-ROOM.false in it), reports_size a.reports c.well_formed.0)) in
    let e : c.if-all_reports.value ≡ in_turn a.m a.reports a.given c.requires.2 (map report_of (take (a.reports.count - a.given) (drop a.given a.reports.items))) = search rules in
    e ∙ ap (in_turn a.m a.reports a.given c.requires.2) due ∙ asked_in_turn a.m a.reports a.given c.requires.2 c.if-most-n.false
