-- The definitions that the contracts of lattice cite.
pub mod Lattice
pub mod Parts
