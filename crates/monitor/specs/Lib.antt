-- What a reader must believe of this crate: what the watch answers of a dump, and the known runs as bytes.
pub mod Answers
pub mod Known
