pub mod Buffers
pub mod Refusal
pub mod inner
