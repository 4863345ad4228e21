-- The keys of vertices, and what the parts of the code that numbers them promise.
pub mod Keys
pub mod Parts
