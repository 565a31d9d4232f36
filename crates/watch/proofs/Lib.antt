-- What holds of what the program prints, beside the proofs of its functions.
mod Cut
mod Known
