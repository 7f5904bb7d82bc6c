pub mod State
pub mod Steps
pub mod Reached
pub mod Split
pub mod inner
