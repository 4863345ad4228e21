-- The split table of an octree as code meets it.
pub mod Parts
pub mod Sweep
