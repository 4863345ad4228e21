-- Laws that the proofs of words share.
pub mod Words
pub mod Turns
