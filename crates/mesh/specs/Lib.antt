-- What it is to be a mesh, and the refusals of every step that takes one.
pub mod Mesh
pub mod Judged
