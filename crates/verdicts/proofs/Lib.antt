pub mod ReplyLaws
pub mod LayLaws
pub mod LeakLaws
pub mod TenantLaws
