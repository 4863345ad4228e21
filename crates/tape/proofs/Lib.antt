-- Laws of digests.
pub mod Digesting
