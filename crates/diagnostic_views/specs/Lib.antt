-- Which faults a person is told of.
pub mod AllNames
pub mod Shown
pub mod Windows
pub mod MarkerViews
pub mod Markers
pub mod PlaceViews
pub mod Places
pub mod Views
