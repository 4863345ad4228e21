-- Laws that the proofs of grid share, and what the step means.
pub mod WaysOut
pub mod Vertices
pub mod Octrees
pub mod Numbers
pub mod Whole
pub mod Theorems
