-- The definitions that the contracts of mesh_layout cite.
pub mod Layout
pub mod Parts
