-- The definitions that the contract of marks cites.
pub mod Marks
pub mod Step
pub mod Parts
