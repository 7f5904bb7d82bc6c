pub mod Facts
pub mod CallTextsFacts
pub mod Ids
pub mod Exceptions
