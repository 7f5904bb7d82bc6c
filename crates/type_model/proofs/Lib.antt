pub mod NameLaws
pub mod ModelLaws
pub mod NameOrder
