pub mod ViewLaws
pub mod PartLaws
pub mod FitLaws
pub mod WordForms
pub mod PackLaws
pub mod TapeLengths
pub mod UnpackLaws
