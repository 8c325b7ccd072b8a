pub mod JoinLaws
pub mod PickLaws
pub mod CountLaws
pub mod SheetLaws
pub mod FillLaws
