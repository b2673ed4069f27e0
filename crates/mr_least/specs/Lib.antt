pub mod Choice
pub mod Answer
pub mod Headline
pub mod Answers
