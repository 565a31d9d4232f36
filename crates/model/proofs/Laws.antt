-- What other crates may cite.

-- the invariant, of every state that a run reaches
pub use Rattle.model.proofs.Reached.{Reached, begin, next, reached_invariant}
pub use Rattle.model.proofs.Kept.{start_has, step_keeps}
-- conditions and lists that agree; conditions told apart; no section held twice; the order of Delays, who sleeps until a tick number, and a wake
pub use Rattle.model.proofs.Invariant.{Agree, tag, OtherSection, Sleeps}
pub use Rattle.model.proofs.Sleeping.{delayed_below, sleeper, wake_up}
-- how long the machine's lists get
pub use Rattle.model.proofs.Bounds.{queued_below, waiting_below, queue_fits_lem, waits_fit_lem, may_take-below, sections_fit, holds_fit_lem}
-- at most T + 9 reports are due, each allowed, a Switch last; and what has a claim on the room for them finds it
pub use Rattle.model.proofs.Claims.{due_fits, due_named, switch_is_last, claims_fit}
-- what a Tick and a report given do to the claims, in any state
pub use Rattle.model.proofs.Owed.{claims_given, tick_claims, tick_due_fits, tick_reported, expired_without, switch_dropped}
-- answer 12: what a well-formed state tells, and that every state reached is one
pub use Rattle.model.proofs.Formed.{Standing, WellFormed, rest_claims, well_standing, well_formed, in_arming, passes_machine, passes_all}
pub use Rattle.model.proofs.Lent.{reached_formed}
-- the timers: the count lost, where they expire, and that nothing is due inside an arming
pub use Rattle.model.proofs.Timers.{IsLeast, lost_none, lost_alarm, lost_least, Ahead, AheadIfArmed, armed_soon, TimersFit, timers_fit, Settled, settled}
-- how many threads and sections a plan has; rule 30 compares whole operands
pub use Rattle.model.proofs.Operands.{counts_fit, whole_operands}
-- the chosen thread; nesting of holds; the owner is the last holder; a holder never loses a Take; what a Give ends and leaves
pub use Rattle.model.proofs.Nesting.{chosen_is, holds_nest, owner_is_last_holder, chosen_below, holder_never_loses}
pub use Rattle.model.proofs.Give.{last_held, give_ends_latest_hold, no_give_leaves_a_waiter_above}
-- a ceiling's whole law
pub use Rattle.model.proofs.Ceiling.{ceiling_ge, ceiling_attained}
-- questions that all have the answer Yes, and what some of them say
pub use Rattle.model.proofs.Performed.{AllYes, all_yes, somebody, dormant_is}
-- one step: where a run begins, how many Ticks a step counts, which numbers broken rules have
pub use Rattle.model.proofs.Steps.{judge_run, tick_at_most, broken_rule}
-- the verdict of a list of records, and of its first records
pub use Rattle.model.proofs.Prefixes.{run_ended, run_moved, run_broke, clean_steps, clean_count, breach_prefix, clean_before_breach, clean_reached}
-- the bench kernel's list of records, call by call; it is clean with nothing due and no arming in progress, each call with nothing due before it,
-- and every such list is the bench kernel's
pub use Rattle.model.proofs.Bench.{bench_begins, bench_ended, bench_moved, bench_broke, settled_reached, given_none, bench_clean, clean_is_bench}
-- demand 3
pub use Rattle.model.proofs.Theorem.{promise, promise_before_breach}
