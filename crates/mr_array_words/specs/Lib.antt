pub mod Counting
pub mod Devices
pub mod Gather
pub mod Reads
pub mod Scatter
pub mod Words
