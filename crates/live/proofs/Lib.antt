-- What holds of the live step. Open to other crates is Laws, which lists what they may cite; the rest is this crate's own.
mod Lending
mod Alone
mod Stepwise
mod Keeping
pub mod Laws
