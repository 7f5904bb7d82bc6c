-- What the crate's own code names.
pub mod Told
