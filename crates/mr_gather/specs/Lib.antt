-- The words of arrays on device files.
pub mod Arrays
pub mod Slots
