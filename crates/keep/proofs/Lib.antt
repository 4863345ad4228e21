-- Laws that the proofs of keep share.
pub mod Marking
pub mod WaysOut
pub mod Theorems
