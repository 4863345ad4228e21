-- Floats of 32 bits: operations by name, the ceiling by its meaning, and what its parts ask and give.
pub mod Operations
pub mod Ceiling
pub mod Parts
