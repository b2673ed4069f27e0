pub mod Terms
pub mod Rights
pub mod Views
pub mod Rule
pub mod Keys
pub mod Boards
pub mod Laws
