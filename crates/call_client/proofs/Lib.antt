pub mod Reading
pub mod Saying
pub mod Rows
pub mod ByRows
pub mod Places
