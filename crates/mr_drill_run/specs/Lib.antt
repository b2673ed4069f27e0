-- The words of a drill that is run.
pub mod Costs
pub mod Damage
pub mod Drills
pub mod Summaries
