-- What the crate's own code and proofs name, and no public contract does.
pub mod Pushed
pub mod Tapes
pub mod Targets
pub mod ReplyBodiesTapes
