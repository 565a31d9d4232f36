-- What a reader must believe of this crate: which lists of the model its packed words stand for.
pub mod Words
pub mod Lists
pub mod Choice
