pub mod Laws
pub mod Ties
pub mod Levels
