pub mod PartLaws
pub mod RecipeLaws
pub mod MendLaws
pub mod OpeningLaws
pub mod PlanLaws
pub mod CodedLaws
