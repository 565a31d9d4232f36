-- What holds of a walk. Open to other crates is Laws, which lists what they may cite; the rest is this crate's own.
mod Walking
mod Turning
mod Singles
pub mod Laws
