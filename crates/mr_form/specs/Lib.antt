pub mod MatrixText
pub mod FirstFaults
pub mod Layouts
