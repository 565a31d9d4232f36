-- What other crates may cite of the timers.

-- no timer expires before the soonest
pub use Rattle.clock.proofs.Slots.{soonest_least}
