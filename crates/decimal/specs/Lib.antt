-- The definitions that the contracts of decimal cite.
pub mod Text
pub mod Digits
