pub mod Images
pub mod Heads
pub mod HeadFaults
pub mod Laws
pub mod Rotated
pub mod Sights
