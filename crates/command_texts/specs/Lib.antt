-- Values as text, by the types of a table.
pub mod Lines
pub mod inner
pub mod Bodies
pub mod Outcomes
