pub mod Gaps
pub mod Places
pub mod Times
pub mod Ends
