-- What a listed leaf stands for.
pub mod Parts
