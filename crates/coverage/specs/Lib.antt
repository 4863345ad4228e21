-- The definitions that the contract of add_coverage cites.
pub mod Step
pub mod Many
pub mod Parts
