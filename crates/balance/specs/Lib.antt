-- The balance by the shell, and the test that a table is balanced.
pub mod Parts
