pub mod Answering
pub mod Counted
pub mod Each
pub mod Examples
pub mod Hyphen
pub mod Listing
pub mod Names
pub mod Places
