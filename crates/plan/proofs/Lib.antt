-- What holds of this crate's definitions. Open to other crates is Laws, which lists what they may cite; the rest is this crate's own.
mod Bits
mod Answers
mod Entries
mod Examples
pub mod Laws
