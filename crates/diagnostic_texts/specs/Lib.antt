pub mod Headings
pub mod Named
