-- Laws of passes.
pub mod Counting
pub mod Picked
pub mod Filing
pub mod Composing
