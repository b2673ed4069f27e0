pub mod Counts
pub mod Repairs
pub mod Steps
pub mod Laws
