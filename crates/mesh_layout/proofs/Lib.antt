-- Laws of the mesh file's layout.
pub mod Sections
pub mod There
pub mod Sound
