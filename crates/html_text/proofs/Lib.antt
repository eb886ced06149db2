pub mod ContextsOfBytes
pub mod Delimiters
pub mod KeptBytes
pub mod ManySigns
pub mod Numbers
pub mod TrailingBlanks
pub mod lemmas
