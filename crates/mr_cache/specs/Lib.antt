pub mod Cache
pub mod Planning
