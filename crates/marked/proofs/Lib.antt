-- Laws that the proofs of marked share.
pub mod Using
pub mod Counting
pub mod Weighing
pub mod Placing
pub mod WaysOut
pub mod Theorems
