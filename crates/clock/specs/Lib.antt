-- What a reader must believe of this crate: which timers of the model the code's numbers stand for, and what its functions ask and answer.
pub mod View
pub mod Clauses
