-- What a reader must believe of this crate: what a line of text is, what a read tells, and where the plan ends in what is read.
pub mod Text
pub mod Input
