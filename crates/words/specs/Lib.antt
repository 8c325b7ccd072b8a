pub mod Meaning
pub mod Ties
