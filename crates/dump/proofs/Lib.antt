-- What holds of the layout. Open to other crates is Laws, which lists what they may cite; the rest is this crate's own.
mod Ranges
mod Operands
mod Asking
mod Running
mod Answers
mod Refusals
mod Words
mod Codec
mod Readings
mod Wider
mod Encoded
mod Decoded
mod Places
pub mod Laws
