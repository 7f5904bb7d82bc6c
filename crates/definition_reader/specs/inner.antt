-- What the crate's own code and proofs name, and no public contract does.
pub mod Makings
pub mod Reading
pub mod Following
