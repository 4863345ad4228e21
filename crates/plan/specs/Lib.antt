-- The plan of a grid: sections 2 and 10 of the rules.
pub mod Step
pub mod Parts
pub mod Vertices
