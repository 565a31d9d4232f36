-- What a reader must believe of this program: the line that it prints.
pub mod Printed
