-- The tokens that the tree of an IDL specification spells, and its levels.
pub mod Pieces
pub mod Yields
pub mod TypeYields
pub mod DefinitionYields
pub mod Grouping
pub mod Levels
pub mod TypeLevels
pub mod DefinitionLevels
pub mod Starts
pub mod Lists
pub mod PartsLeft
pub mod Forms
pub mod Shapes
pub mod TypeShapes
pub mod DefinitionShapes
pub mod Descent
pub mod DefinitionDescent
