-- Laws of meshes that are not refused, and of the points that a cell names.
pub mod Unrefused
pub mod Named
