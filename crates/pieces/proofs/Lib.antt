-- Laws that the proofs of pieces share.
pub mod Labelled
pub mod Joining
pub mod Chains
pub mod Numbering
pub mod WaysOut
pub mod Theorems
