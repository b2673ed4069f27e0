pub mod Numbers
pub mod Shares
