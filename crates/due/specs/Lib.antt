-- What a reader must believe of this crate: which reports of the model the code's numbers and arrays stand for.
pub mod Lists
