pub mod GiopNodes
pub mod GiopModel
pub mod Fields
pub mod Named
pub mod TapeParts
pub mod TapeRefusal
