pub mod KnownLaws
pub mod ReplyLaws
pub mod PolicyLaws
pub mod ReadableLaws
pub mod Traps
pub mod FactLaws
