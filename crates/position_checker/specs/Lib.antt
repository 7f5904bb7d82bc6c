pub mod Acceptance
pub mod Verdict
pub mod File
pub mod Summary
pub mod inner
