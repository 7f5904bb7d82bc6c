pub mod Ask
pub mod Commands
pub mod Mistake
pub mod Spoken
pub mod Way
pub mod Words
pub mod Requests
