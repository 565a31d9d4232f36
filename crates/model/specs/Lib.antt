-- What a reader must believe, in the order of document 01. Searches is the small vocabulary that the rest is written in.
pub mod Searches
pub mod Plan
pub mod Records
pub mod Timers
pub mod State
pub mod Priorities
pub mod Calls
pub mod Rules
pub mod Runs
pub mod Formed
pub mod Known
pub mod Words
pub mod Promise
pub mod Bench
