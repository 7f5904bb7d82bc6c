pub mod Kinds
pub mod Counts
pub mod Noted
pub mod Places
pub mod Work
pub mod Progress
