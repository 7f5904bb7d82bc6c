-- What the code keeps.
pub mod Searched
