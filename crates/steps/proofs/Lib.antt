pub mod RankLaws
pub mod ClauseLaws
pub mod AtomLaws
pub mod BitOrder
pub mod OperandLaws
pub mod EachLaws
pub mod FewLaws
