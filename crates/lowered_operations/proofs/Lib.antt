pub mod Lengths
pub mod PlacesMore
pub mod ModuleWalks
pub mod Refused
mod Walks
pub mod Kept
pub mod Calls
pub mod OperationsKeep
pub mod AttributesKeep
pub mod InterfacesKeep
pub mod BasesRead
pub mod FileKeep
pub mod SoundFile
pub mod BodiesRead
pub mod FileLaws
