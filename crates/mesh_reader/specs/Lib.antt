-- The definitions that the contract of read_mesh cites.
pub mod Step
