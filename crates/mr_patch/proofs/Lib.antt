pub mod Walking
pub mod StripePlans
pub mod CachePlans
pub mod SlotLaws
pub mod MendTurns
pub mod MendSteps
pub mod CopyTurns
pub mod Assembling
