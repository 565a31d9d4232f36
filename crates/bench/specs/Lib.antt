-- What a reader must believe of this program: the bytes that it writes.
pub mod Printed
