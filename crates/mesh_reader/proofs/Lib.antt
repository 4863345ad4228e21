-- Laws that the proofs of mesh_reader share, and what its contract means.
pub mod Sections
pub mod Theorems
