pub mod AtomHeadLaws
pub mod HeadLaws
pub mod Vectors
