-- Laws that the proofs of groups share.
pub mod Highest
pub mod Noting
pub mod Unrefused
