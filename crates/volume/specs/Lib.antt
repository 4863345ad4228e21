-- The definitions that the contracts of volume cite.
pub mod Cell
pub mod Volume
pub mod Example
