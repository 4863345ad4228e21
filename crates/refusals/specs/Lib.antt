-- Refusals in their order, causes that steps share, the number of each refusal, and the outcome of a step that counts.
pub mod Rows
pub mod Causes
pub mod Refusals
