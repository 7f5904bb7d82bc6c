pub mod GraphFacts
pub mod ModelFacts
pub mod Lists
pub mod Named
pub mod PartLaws
pub mod PartTrees
pub mod Writings
pub mod Found
