-- What is told of a leaf's sides, and how it is read.
pub mod Parts
