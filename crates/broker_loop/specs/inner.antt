pub mod Waits
pub mod Going
pub mod Turns
