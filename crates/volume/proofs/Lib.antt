-- Laws of the verdict.
pub mod Theorems
