-- What holds of packed words. Open to other crates is Laws, which lists what they may cite; the rest is this crate's own.
mod Words
mod Holdings
mod Chains
mod Queues
mod Numbered
mod Current
mod Heirs
pub mod Laws
