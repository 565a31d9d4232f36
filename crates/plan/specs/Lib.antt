-- What a reader must believe of this crate: bytes and words, the plan's bytes, the plan that the code's struct stands for, and the known plans as bytes.
pub mod Words
pub mod Bytes
pub mod View
pub mod Known
