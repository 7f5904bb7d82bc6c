-- What the crate's own code and proofs name, and no public contract does.
pub mod Fitting
pub mod Progress
pub mod Running
pub mod StreamPieces
pub mod Turns
