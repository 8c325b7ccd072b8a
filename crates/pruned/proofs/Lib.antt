pub mod FitLaws
pub mod PruningLaws
pub mod TidiedLaws
pub mod CoverLaws
