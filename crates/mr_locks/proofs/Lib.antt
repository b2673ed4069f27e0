pub mod Sums
pub mod Moves
pub mod Held
pub mod Closing
