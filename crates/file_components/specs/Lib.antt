-- The definitions that the contracts of file_components cite.
pub mod Blocks
pub mod Parts
