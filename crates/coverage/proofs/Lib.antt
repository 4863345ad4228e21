-- Laws that the step cites.
pub mod Held
pub mod Volumes
pub mod Summing
pub mod WaysOut
pub mod Theorems
pub mod Fresh
