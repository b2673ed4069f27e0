pub mod ClosedLaws
pub mod EndedLaws
pub mod Finding
pub mod Listing
pub mod Serving
pub mod Strides
