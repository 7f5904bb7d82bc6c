-- What the crate's own code and proofs name, and no public contract does.
pub mod Gaps
