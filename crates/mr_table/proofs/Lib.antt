pub mod LossLists
pub mod Ordered
pub mod Views
pub mod Keeps
pub mod AnswerLaws
pub mod CrewLaws
