pub mod Sites
pub mod Paths
pub mod Levels
