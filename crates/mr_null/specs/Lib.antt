pub mod Elimination
pub mod Combinations
