-- What the crate's own code names, and no public contract does.
pub mod Modelled
