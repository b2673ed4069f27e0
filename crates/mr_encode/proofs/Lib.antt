pub mod ColumnLaws
pub mod FrontLaws
pub mod StripeLaws
pub mod BodyLaws
