pub mod Laws
pub mod Losses
pub mod Passes
pub mod Rows
pub mod Rule
pub mod Work
