pub mod PartLaws
pub mod StopLaws
