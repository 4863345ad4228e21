-- The step grid: its cells and vertices, its refusals and tables, what it is that they are whole, and what its split table is; what the parts of the code ask and give.
pub mod Grid
pub mod Step
pub mod Whole
pub mod Octrees
pub mod Parts
