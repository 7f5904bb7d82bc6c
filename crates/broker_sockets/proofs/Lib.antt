pub mod Visits
pub mod Objects
pub mod Counts
pub mod Sessions
pub mod Untold
pub mod Octets
pub mod Sweeps
