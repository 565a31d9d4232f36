-- What holds of the definitions in specs/. Open to other crates is Laws, which lists what they may cite; the rest is this crate's own.
mod Walks
mod Sets
mod Examples
pub mod Laws
