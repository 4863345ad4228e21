-- Laws that the proofs of marks share.
pub mod Counting
pub mod Storing
pub mod WaysOut
pub mod Theorems
