-- The definitions that the contracts of keep cite.
pub mod Marked
pub mod Step
pub mod Parts
pub mod Example
