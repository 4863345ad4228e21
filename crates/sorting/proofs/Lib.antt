-- Laws of entries, of their order and of exchanges.
pub mod Counting
pub mod Swapping
pub mod Parting
pub mod Sinking
pub mod Halves
pub mod Members
pub mod Ranks
