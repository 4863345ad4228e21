-- Entries of a list, sorted and each once.
pub mod Entries
pub mod Numbers
