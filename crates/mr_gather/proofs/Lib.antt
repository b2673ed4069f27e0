pub mod SlotLaws
pub mod ArrayLaws
pub mod StripeLaws
pub mod SendLaws
