pub mod OutputLaws
pub mod RunLaws
