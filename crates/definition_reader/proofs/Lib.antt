pub mod Reading
pub mod Ways
pub mod Parts
pub mod Operands
pub mod Pairs
pub mod Adding
pub mod Refusing
