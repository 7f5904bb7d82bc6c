pub mod View
pub mod Refusal
pub mod inner
