-- Laws that the proofs of decimal share.
pub mod Texts
pub mod Decimals
pub mod Counts
pub mod Longer
