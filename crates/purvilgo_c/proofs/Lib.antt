pub mod Handles
pub mod HandedOn
pub mod AllPages
