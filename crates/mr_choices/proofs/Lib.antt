pub mod AtLaws
pub mod PlanChoice
pub mod ChosenLaws
mod SinglesLaws
pub mod Wanted
