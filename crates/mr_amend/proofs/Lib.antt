pub mod Counting
pub mod Calling
pub mod Deals
pub mod Gathering
pub mod Openings
