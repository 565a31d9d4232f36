-- What question 12 says of the numbers that it is asked of; all of it is this crate's own.
mod Ranges
mod Bits
mod Calm
mod Outside
mod Reported
mod Keeping
mod Slices
