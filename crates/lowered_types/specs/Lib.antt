-- Which types a specification is lowered to, and what each is in a graph of types.
pub mod Faults
pub mod TypeKinds
pub mod Members
pub mod Lowered
pub mod SimpleTypes
pub mod Labels
pub mod Types
pub mod Declarations
pub mod Sound
