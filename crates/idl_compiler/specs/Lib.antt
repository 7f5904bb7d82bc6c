-- What the table of an IDL file is, and its table file, and why a file has none.
pub mod Compiled
pub mod Files
pub mod Numbers
pub mod Refused
pub mod Settlement
pub mod inner
