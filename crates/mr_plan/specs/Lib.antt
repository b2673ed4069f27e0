pub mod Plans
pub mod PlanLists
pub mod PlanText
pub mod Checks
pub mod Faults
pub mod Readings
