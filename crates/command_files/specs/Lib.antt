-- Tables by the words that name them.
pub mod Loaded
