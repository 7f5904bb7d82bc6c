pub mod SampleRules
pub mod AnswerLaws
pub mod Objects
pub mod References
pub mod NamedLaws
