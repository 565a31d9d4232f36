-- What holds of this crate's definitions. Open to other crates is Laws, which lists what they may cite; the rest is this crate's own.
mod Sized
mod Conditions
mod Views
mod Facts
mod Answered
mod Admitted
mod Room
mod Keeping
mod Chosen
mod Meets
mod Switched
mod Woken
mod Quieted
mod After
mod Owing
mod Questions
mod Unbroken
mod Asking
mod Judged
mod Outcomes
mod Timed
mod Opening
mod Still
pub mod Laws
