pub mod EliminationLaws
pub mod Progress
