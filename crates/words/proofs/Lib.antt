pub mod NeedLaws
pub mod ClassLaws
