-- Laws that the proofs of mesh_writer share.
pub mod Writing
