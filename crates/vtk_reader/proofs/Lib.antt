-- Laws that the proofs of vtk_reader share, and what its contract means.
pub mod Judging
pub mod Files
pub mod Cells
pub mod Theorems
pub mod Front
