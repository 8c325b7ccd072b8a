pub mod FieldLaws
pub mod TurnLaws
pub mod AtomLaws
pub mod HeldLaws
