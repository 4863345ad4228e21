-- The definitions that the contracts of marked cite.
pub mod Weighed
pub mod Used
pub mod Kept
pub mod Parts
