pub mod Numbers
mod Changes
mod Steps
mod Seats
pub mod Sizes
pub mod RightLaws
mod Copying
mod Settled
mod Places
