-- The crossing answers of octants, and which of them count.
pub mod Parts
