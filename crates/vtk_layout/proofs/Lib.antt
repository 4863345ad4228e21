-- Laws that the proofs of vtk_layout share.
pub mod Parts
pub mod Sound
pub mod There
pub mod Front
pub mod Cut
