pub mod Sums
pub mod NumberLaws
