pub mod Directory
pub mod Fronts
pub mod Codes
pub mod Accepted
