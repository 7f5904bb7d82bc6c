pub mod Sets
pub mod Taking
pub mod Steps
pub mod Refusal
pub mod Right
pub mod inner
