-- When tokens are a whole specification, and what the crate's own code and proofs name.
pub mod Specification
pub mod inner
