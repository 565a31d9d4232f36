-- What holds of the watch. Open to other crates is Laws, which lists what they may cite; the rest is this crate's own.
mod Passed
mod Checking
mod Promised
mod KnownBytes
pub mod Laws
