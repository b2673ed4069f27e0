pub mod SurveyLaws
pub mod KnownLaws
