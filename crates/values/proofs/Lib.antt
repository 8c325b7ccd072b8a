pub mod ReadLaws
pub mod ValueLaws
