pub mod Acceptance
pub mod RouteLaws
pub mod ServedLaws
pub mod Lone
pub mod VerdictLaws
