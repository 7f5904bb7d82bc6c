-- Which frames, operations and interfaces a specification is lowered to behind its types.
pub mod Oneway
pub mod Frames
pub mod Operations
pub mod Interfaces
pub mod Definitions
pub mod Kept
pub mod Sound
