pub mod Buffers
pub mod Orders
