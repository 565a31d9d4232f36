-- What a reader must believe of this crate: the layout of a dump and of a call list, and the questions asked of one.
pub mod Layout
pub mod Questions
pub mod Operands
pub mod Reading
