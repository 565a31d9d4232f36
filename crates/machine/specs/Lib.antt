-- What a reader must believe of this crate: which state of the model the code's structs stand for, and what its functions ask and answer.
pub mod View
pub mod Kept
pub mod Rules
pub mod Clauses
pub mod Calls
pub mod Records
