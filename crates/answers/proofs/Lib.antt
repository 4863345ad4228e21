-- Laws of the reading of the crossing answers.
pub mod Clearing
