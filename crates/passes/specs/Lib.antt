-- Stable passes by buckets.
pub mod Passes
