-- What a reader must believe of this crate: where a walk over records ends, and what it asks.
pub mod Clauses
