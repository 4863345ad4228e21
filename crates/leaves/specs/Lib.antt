-- The list of leaves, and what a walk over them leaves behind.
pub mod Parts
