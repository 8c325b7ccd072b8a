pub mod LaidLaws
pub mod WordLaws
pub mod SieveLaws
pub mod ClauseLaws
pub mod OutsideLaws
pub mod ManyLaws
pub mod PlanLaws
