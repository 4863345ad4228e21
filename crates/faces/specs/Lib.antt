-- The refusals of a step that takes faces, and what the parts of the code ask and give.
pub mod Judged
pub mod Parts
