pub mod Octets
pub mod Spelling
pub mod Table
pub mod TableSpelling
pub mod Refusal
pub mod Stops
pub mod inner
