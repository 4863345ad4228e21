-- The definitions that the contracts of vtk_writer cite.
pub mod Step
pub mod Parts
