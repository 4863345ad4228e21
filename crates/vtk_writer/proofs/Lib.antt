-- Laws that the proofs of vtk_writer share.
pub mod Writing
