pub mod Damages
pub mod Rooms
pub mod Mending
pub mod Copying
pub mod Laws
