-- Laws of floats: the code's tests, comparing with whole numbers, and what the ceiling means.
pub mod Floats
mod Wholes
pub mod Theorems
