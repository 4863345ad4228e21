-- What the contracts of the C functions leave open: nothing.
pub mod Theorems
