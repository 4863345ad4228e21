-- The leaf that covers an octant.
pub mod Parts
