pub mod EndingLaws
pub mod OrderLaws
pub mod Ranges
