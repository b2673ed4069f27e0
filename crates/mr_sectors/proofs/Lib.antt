pub mod CountLaws
pub mod RepairLaws
pub mod RepairSteps
