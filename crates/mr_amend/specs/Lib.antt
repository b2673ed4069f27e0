pub mod Callers
pub mod Props
