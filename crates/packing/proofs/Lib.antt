pub mod WroteLaws
pub mod AtomLaws
