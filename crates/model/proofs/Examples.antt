-- Demand 3 has something to say: runs of which its parts speak, and a list of records that fails it.
pub mod Stretches
pub mod Judged
pub mod RunA
pub mod TwoLower
pub mod Wake
pub mod Timing
pub mod Waking
pub mod Interrupted
pub mod Unclean
