-- What a reader must believe of this crate: what the bench kernel answers, and what it writes.
pub mod Answers
pub mod Clauses
