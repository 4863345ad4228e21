-- The worked numbers are those of the definitions.
pub mod Octree
pub mod Refinement
pub mod Theorems
