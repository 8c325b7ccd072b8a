pub mod PlanLaws
pub mod RowLaws
pub mod ReplyLaws
pub mod ReadyLaws
