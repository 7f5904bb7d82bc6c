pub mod Answers
pub mod Handle
pub mod MessageAnswers
pub mod Numbers
pub mod SourceAnswers
pub mod TextAnswers
pub mod inner
