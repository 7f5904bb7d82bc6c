pub mod Lines
pub mod Objects
pub mod Visits
pub mod Serving
pub mod Parted
pub mod inner
