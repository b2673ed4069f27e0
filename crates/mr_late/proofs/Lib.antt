pub mod Reading
pub mod RunAnswers
pub mod Lines
