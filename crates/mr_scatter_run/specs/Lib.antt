-- The words of `scatter`: what it is asked for, what it does, and what a run says.
pub mod Tasks
pub mod Ready
pub mod Ends
pub mod Answers
