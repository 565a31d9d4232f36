-- What a reader must believe of this crate: what a live step answers and leaves, and live steps one after another.
pub mod Watching
pub mod Clauses
pub mod Stepwise
