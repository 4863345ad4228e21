-- Laws of the refusals in their order, of the causes that steps share, and of each refusal and its number.
pub mod Rows
pub mod Causes
pub mod Refusals
