-- Laws of faces.
pub mod Triples
pub mod Sides
pub mod Naming
pub mod Sharing
pub mod Worked
