pub mod CoverLaws
pub mod CrewLaws
pub mod HireLaws
