-- Laws that the proofs of vertex_keys share.
pub mod Front
pub mod Packing
pub mod Indexing
