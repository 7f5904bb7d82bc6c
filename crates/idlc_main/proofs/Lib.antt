pub mod Answers
pub mod Asked
pub mod Ends
pub mod Unspelled
pub mod DumpEnds
