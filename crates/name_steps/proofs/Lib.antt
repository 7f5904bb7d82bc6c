pub mod Asks
pub mod Asked
pub mod ListedSteps
pub mod Behind
