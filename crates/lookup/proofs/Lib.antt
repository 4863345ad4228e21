-- Laws of the descent, and what the lookup means.
pub mod Descent
pub mod Theorems
