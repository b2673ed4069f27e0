pub mod Chosen
pub mod Rotations
pub mod Handed
