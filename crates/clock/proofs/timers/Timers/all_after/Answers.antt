-- `Timers::all_after` meets its contract: each that is armed expires later where the soonest does.
use Rattle.std.proofs.Common.{◌≡◌, sym, ap, ◌∙◌, true, ltb, rules}
use Rattle.std.specs.Prelude.{fold}
use Rattle.clock.proofs.Sized.{expiries_size}
use Rattle.clock.proofs.Earliest.{above, all_above, earliest_is}
use Rattle.clock.proofs.timers.Timers.all_after.Goals as goal

pub returns : goal.returns
returns c =
    let t = c.args.self in
    let n = c.args.number.0 in
    let folded : c.fold.result ≡ fold (above n) true t.expiries = search rules in
    folded ∙ all_above n c.requires true t.expiries ∙ ap (ltb n) (sym (earliest_is t.expiries t.periods (expiries_size t c.well_formed.0)))
