-- Laws that the proofs of lattice share.
pub mod Octahedra
pub mod Formulas
pub mod Named
pub mod Stores
pub mod Tables
