pub mod Names
pub mod ModelRules
pub mod inner
pub mod PartNamesNames
pub mod Operations
pub mod Exceptions
