-- What holds of what the program writes, beside the proofs of its functions.
mod Cut
mod Room
