-- The words of a rebuild that is made ready and carried.
pub mod Duties
pub mod Orders
pub mod Lawful
pub mod Reads
pub mod Reports
pub mod Writing
pub mod Written
pub mod Lent
pub mod Joining
pub mod Crews
pub mod Desks
pub mod Placing
pub mod Replying
pub mod Carrying
