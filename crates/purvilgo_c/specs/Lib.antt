pub mod Ownership
pub mod About
pub mod Explained
