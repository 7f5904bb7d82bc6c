-- What is declared, and what a name finds.
pub mod Entry
pub mod Search
pub mod Entries
pub mod OwnNames
pub mod Features
pub mod inner
pub mod Arithmetic
pub mod Texts
pub mod Worth
pub mod Kinds
