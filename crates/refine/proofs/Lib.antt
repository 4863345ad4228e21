-- Laws of the parts, the ways out of the step, and what it means.
pub mod Summing
pub mod Tables
pub mod WaysOut
pub mod Theorems
