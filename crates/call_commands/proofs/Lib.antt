pub mod Endings
pub mod Hops
pub mod Tries
pub mod Heeding
pub mod Chains
