-- What holds of this crate's definitions. Open to other crates is Laws, which lists what they may cite; the rest is this crate's own.
mod Decimal
mod Fewest
mod Lines
mod Reading
mod Parts
mod Cut
pub mod Laws
