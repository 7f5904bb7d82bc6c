pub mod Dialled
