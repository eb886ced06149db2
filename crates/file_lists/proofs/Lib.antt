pub mod FirstEntry
pub mod NameFaults
