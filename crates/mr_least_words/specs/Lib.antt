pub mod Budgets
pub mod Words
