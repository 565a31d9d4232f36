-- `Reports::ticked` meets its contract: what stays, behind it the Expires, behind them the Readys; there is room for all.
use mathlib.Core.Path.{◌≡◌, ap, ap₂, sym, ◌∙◌}
use mathlib.Core.Bool.{not, ◌&&◌}
use mathlib.Core.List.{◌++◌, map, append_assoc}
use native.Mathlib.Omega.{arith}
use lib.ListN.{length, drop, length-append, length-map}
use Rattle.model.specs.Searches.{up_to}
use Rattle.model.specs.Records.{timer_count, Ready, Expire}
use Rattle.model.specs.Timers.{slot, expires_at, owes_expire, expired}
use Rattle.model.specs.State.{without_switch}
use Rattle.model.proofs.Loops.{filter-few}
use Rattle.lists.specs.Lists.{queued}
use Rattle.lists.proofs.Laws.{length-queued}
use Rattle.clock.specs.View.{view}
use Rattle.due.specs.Lists.{owed}
use Rattle.due.proofs.Places.{length-owed}
use Rattle.due.proofs.reports.Reports.ticked.Goals as goal
use Rattle.due.proofs.reports.Reports.ticked.Goals.{After-expired-ended, After-joined, After-without_switch, Start}

pub expired-ended-requires : goal.expired-ended-requires
expired-ended-requires c = (c.requires.later, c.requires.in_array)

pub without_switch-requires : goal.without_switch-requires
without_switch-requires c = c.requires.in_array

kept-count : (k : goal.After-without_switch) → (let a = k.args in k.without_switch.result.count ≡ length (without_switch (drop a.given (owed a.self))))
kept-count k = sym (length-owed k.without_switch.result) ∙ ap length k.without_switch.ensures

ended-count : (x : goal.After-expired-ended) → (let a = x.args in x.expired-ended.result.count ≡ length (expired a.number.0 (drop a.given (owed a.self)) (view a.timers)))
ended-count x = sym (length-queued x.expired-ended.result) ∙ ap length x.expired-ended.ensures

pub joined-requires : goal.joined-requires
joined-requires c =
    let a = c.args in
    let few = filter-few (λ i. expires_at a.number.0 (slot (view a.timers) i) && not (owes_expire (drop a.given (owed a.self)) i)) (up_to timer_count) in
    (omega (arith, ended-count (goal.at.joined-requires c).After-expired-ended, few), omega (arith, ended-count (goal.at.joined-requires c).After-expired-ended, kept-count (goal.at.joined-requires c).After-without_switch, c.requires.room))

pub joined-requires-2 : goal.joined-requires-2
joined-requires-2 c =
    let both = sym (length-owed c.joined.result) ∙ ap length c.joined.ensures ∙ length-append (owed c.without_switch.result) (map Expire (queued c.expired-ended.result)) in
    (c.requires.few, omega (arith, both, length-map (queued c.expired-ended.result) Expire, length-owed c.without_switch.result, length-queued c.expired-ended.result, ended-count (goal.at.joined-requires-2 c).After-expired-ended, kept-count (goal.at.joined-requires-2 c).After-without_switch, c.requires.room))

pub returns : goal.returns
returns c =
    let a = c.args in
    let l = drop a.given (owed a.self) in
    c.joined-2.ensures
    ∙ ap (λ m. m ++ map Ready (queued a.woken)) (c.joined.ensures ∙ ap₂ (λ m ts. m ++ map Expire ts) c.without_switch.ensures c.expired-ended.ensures)
    ∙ append_assoc (without_switch l) (map Expire (expired a.number.0 l (view a.timers))) (map Ready (queued a.woken))
