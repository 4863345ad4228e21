-- The definitions that the contract of write_mesh cites.
pub mod Step
