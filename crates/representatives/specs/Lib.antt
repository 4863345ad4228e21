-- The definitions that the contracts of representatives cite.
pub mod Highest
pub mod Step
pub mod Parts
pub mod Example
