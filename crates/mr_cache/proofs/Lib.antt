pub mod Entries
pub mod Keys
pub mod Making
pub mod Serving
