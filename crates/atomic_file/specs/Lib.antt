pub mod Names
pub mod Looking
pub mod Keeping
pub mod Memory
pub mod FileWords
pub mod Codes
