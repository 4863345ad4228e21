pub mod Listing
pub mod Leafwise
pub mod Keys
pub mod Bounds
pub mod Storing
