-- What other crates may cite of the live step.

-- stepping through a list of records from a fresh state says at each record what the whole check says of the list up to it
pub use Rattle.live.proofs.Stepwise.{stepwise, stepwise_bytes, begin_fresh}
-- for every list of records from the start, what is kept is the walk's result
pub use Rattle.live.proofs.Keeping.{kept_is_walk, kept_none}
