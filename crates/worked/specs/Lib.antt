-- The worked numbers: section 13 of the rules.
pub mod Worked
