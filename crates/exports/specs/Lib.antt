-- What a reader must believe of this crate: the number and the values of each answer, what the functions on a lent watch state leave, and the number of the interface itself.
pub mod Numbers
pub mod Clauses
pub mod Abi
