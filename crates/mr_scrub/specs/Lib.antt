pub mod Stripes
pub mod Scans
pub mod Scrubs
pub mod Laws
