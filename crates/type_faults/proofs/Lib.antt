pub mod Found
pub mod Leaving
pub mod PragmaText
pub mod Refused
pub mod Texts
