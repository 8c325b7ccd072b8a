pub mod Questions
pub mod Posing
