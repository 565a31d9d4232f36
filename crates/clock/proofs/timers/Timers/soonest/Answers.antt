-- `Timers::soonest` meets its contract: the least of the greatest tick number and of the expiries that are armed.
use Rattle.std.proofs.Common.{◌≡◌, ap, sym, ◌∙◌, rules}
use Rattle.std.specs.Prelude.{fold, filter}
use Rattle.model.specs.Formed.{last_wake}
use Rattle.clock.specs.declared.time.Tick.{Tick}
use Rattle.clock.proofs.Sized.{expiries_size}
use Rattle.clock.proofs.Earliest.{armed, least, least_armed, earliest_is}
use Rattle.clock.proofs.timers.Timers.soonest.Goals as goal

pub returns : goal.returns
returns c =
    let t = c.args.self in
    let folded : c.fold.result ≡ fold least (record { 0 = last_wake }) (filter armed t.expiries) = search rules in
    ap (λ (e : Tick). e.0) folded ∙ least_armed t.expiries ∙ sym (earliest_is t.expiries t.periods (expiries_size t c.well_formed.0))
