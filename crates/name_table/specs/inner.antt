-- What the crate's own code and proofs name, and no public contract does.
pub mod Codes
pub mod Keys
pub mod Records
pub mod SeveralBases
pub mod Shortcuts
