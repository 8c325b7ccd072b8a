pub mod CellLaws
pub mod ContentLaws
pub mod FillLaws
pub mod RowLaws
pub mod EndLaws
pub mod ListLaws
