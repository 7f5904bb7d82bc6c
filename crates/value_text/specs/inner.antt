-- What the crate's own code and proofs name, and no public contract does.
pub mod Writing
pub mod Slots
pub mod Reading
pub mod Refusing
pub mod Room
