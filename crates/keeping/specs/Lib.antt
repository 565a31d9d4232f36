-- What a reader must believe of what is kept beside the machine's state. What the machine does is the model's.
pub mod Top
