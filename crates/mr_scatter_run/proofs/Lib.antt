pub mod HeadLaws
pub mod ReportLaws
pub mod LostLaws
pub mod OpenLaws
pub mod EndLaws
pub mod ScatterLaws
pub mod RunAnswers
