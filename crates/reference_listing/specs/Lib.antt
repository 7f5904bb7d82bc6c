pub mod Listings
pub mod inner
pub mod Spelled
pub mod Refusal
pub mod Shown
pub mod Pieces
pub mod Lines
pub mod Described
