-- The laws behind the sum over a grid's cells.
pub mod Signed
pub mod Volume
pub mod Faces
pub mod Sums
pub mod Leaves
pub mod Tiling
pub mod Lattice
pub mod Tables
pub mod Theorems
pub mod Handed
