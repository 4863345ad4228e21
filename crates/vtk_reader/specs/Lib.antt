-- The definitions that the contracts of vtk_reader cite.
pub mod Step
pub mod Parts
