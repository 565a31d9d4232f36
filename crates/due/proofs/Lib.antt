-- What holds of the reports due. Open to other crates is Laws, which lists what they may cite; the rest is this crate's own.
mod Sized
mod ReportKinds
mod Places
pub mod Laws
