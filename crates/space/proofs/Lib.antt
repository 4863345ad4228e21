-- Laws of places and frames, and of levels.
pub mod Space
pub mod Levels
