-- What holds of the bench kernel. Open to other crates is Laws, which lists what they may cite; the rest is this crate's own.
mod Giving
mod ReportBytes
mod Putting
mod CallList
mod CallsMade
mod Placing
mod Answering
mod Room
mod Wrote
mod Dumped
mod Watched
pub mod Laws
