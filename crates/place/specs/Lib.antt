pub mod Lent
pub mod Heads
