pub mod FileFacts
pub mod TableFacts
pub mod Texts
pub mod OneShape
pub mod NoTable
