pub mod Wanting
pub mod HeadlineRight
pub mod RunAnswers
