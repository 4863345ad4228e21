-- The definitions that the contracts of vtk_layout cite.
pub mod Texts
pub mod Layout
pub mod File
pub mod Parts
