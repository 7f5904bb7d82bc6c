pub mod Carried
pub mod OneTalk
pub mod Telling
pub mod Limits
pub mod Visits
pub mod Listening
pub mod inner
