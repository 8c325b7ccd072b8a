pub mod KnownLaws
pub mod LineLaws
