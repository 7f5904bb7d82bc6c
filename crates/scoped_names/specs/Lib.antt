-- What the names of a specification are, and its first fault.
pub mod Constants
pub mod Reading
pub mod Tests
pub mod TypeKinds
pub mod Meanings
pub mod RepositoryIds
pub mod IdPragmas
pub mod Faults
pub mod FileNames
pub mod AllFaults
pub mod Introductions
pub mod Holding
pub mod Following
pub mod inner
