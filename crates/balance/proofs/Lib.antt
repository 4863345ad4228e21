-- Laws of the shell, of rows and of levels.
pub mod Merging
pub mod Shells
pub mod Rowing
pub mod Levelling
