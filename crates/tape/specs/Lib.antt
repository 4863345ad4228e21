-- The definitions that the contracts of the tape cite.
pub mod Call
pub mod Digest
