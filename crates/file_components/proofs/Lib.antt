-- Laws that the proofs of file_components share, and of component numbers in a file.
pub mod Comparing
pub mod Small
