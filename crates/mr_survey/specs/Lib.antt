pub mod Surveys
pub mod Known
