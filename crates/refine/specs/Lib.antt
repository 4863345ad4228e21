-- Refine: section 3 of the rules.
pub mod Step
pub mod Parts
