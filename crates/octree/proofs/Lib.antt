-- Laws of the levels of a table, and of passes over them.
pub mod Levels
pub mod Sweeping
pub mod Showing
