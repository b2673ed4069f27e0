pub mod SymbolLaws
pub mod MendedLaws
pub mod HeadLaws
pub mod HeadFaultLaws
pub mod Codewords
pub mod XorLaws
pub mod FileLaws
pub mod Places
pub mod RotatedLaws
mod Rows
mod RotatedRows
