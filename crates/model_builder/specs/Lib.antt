-- The model that an IDL file shows, and the faults of its types.
pub mod Naming
pub mod Signatures
pub mod Shown
pub mod PartNames
pub mod Faults
pub mod Ascii
pub mod inner
