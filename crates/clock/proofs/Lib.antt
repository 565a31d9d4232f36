-- What holds of the timers' numbers. Open to other crates is Laws, which lists what they may cite; the rest is this crate's own.
mod Sized
mod Slots
mod Earliest
mod Stages
pub mod Laws
