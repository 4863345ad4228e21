-- Laws that the proofs of faces share.
pub mod Corners
pub mod Buckets
pub mod Scattering
pub mod Passing
pub mod Telling
pub mod Changes
pub mod Tallying
pub mod Twice
