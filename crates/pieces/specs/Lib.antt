-- The definitions that the contracts of pieces cite.
pub mod Pieces
pub mod Step
pub mod Parts
pub mod Example
