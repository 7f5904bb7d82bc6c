pub mod Does
pub mod ProgramRules
pub mod Plain
pub mod Served
pub mod Joined
pub mod inner
