-- Laws that the steps of both file formats share.
pub mod Numbers
pub mod Readers
pub mod Writers
pub mod Theorems
