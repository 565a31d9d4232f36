-- What a reader must believe of this crate: what its functions ask of the parts of a machine.
pub mod Clauses
