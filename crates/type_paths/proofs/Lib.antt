pub mod SiteLaws
pub mod PathLaws
pub mod TableLaws
pub mod FaultLaws
pub mod CircleLaws
pub mod Worked
