-- The definitions that the contracts of both file formats cite.
pub mod Loaded
pub mod Reader
pub mod Writer
pub mod Meshes
pub mod Parts
