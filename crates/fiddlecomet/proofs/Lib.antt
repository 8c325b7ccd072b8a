pub mod OneLaws
pub mod VerdictLaws
pub mod AnswerLaws
pub mod Demands
pub mod ToldLaws
