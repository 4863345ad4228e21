-- Laws that the proofs of representatives share.
pub mod Listing
pub mod WaysOut
pub mod Theorems
