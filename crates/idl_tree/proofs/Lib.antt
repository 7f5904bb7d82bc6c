pub mod Rows
pub mod PartLengths
pub mod Chains
pub mod Members
pub mod Modules
pub mod YieldLengths
pub mod SpelledForms
pub mod Fronts
mod Same
mod TreeLists
mod TreeNames
mod Operators
mod Expressions
mod TreeTypes
mod TreeMembers
mod Declarations
mod Interfaces
mod TreeDefinitions
mod Takes
mod NameWays
mod ExprWays
mod TypeWays
mod MemberWays
mod DeclarationWays
mod InterfaceWays
pub mod DefinitionWays
