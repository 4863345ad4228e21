-- The definitions that the contracts of groups cite.
pub mod Judged
pub mod Parts
