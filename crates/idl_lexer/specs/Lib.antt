-- What an IDL source consists of, by the lexical conventions of ISO/IEC 19500-1.
pub mod Octets
pub mod Words
pub mod Numbers
pub mod Punctuation
pub mod Literals
pub mod Readings
pub mod Directives
pub mod Identifiers
pub mod IdentifiersLeft
pub mod Gaps
pub mod Forms
pub mod Tokens
pub mod Lexemes
pub mod Faults
pub mod Refusal
pub mod Says
pub mod inner
