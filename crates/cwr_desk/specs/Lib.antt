pub mod Sights
pub mod Ran
pub mod Ordered
