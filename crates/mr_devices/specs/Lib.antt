-- The words of device files: where symbols stand on them, and how they are written.
pub mod Places
pub mod Writing
pub mod MemStates
