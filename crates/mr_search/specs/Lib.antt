pub mod Layers
pub mod Crew
pub mod Work
