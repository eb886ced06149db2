pub mod Pages
pub mod Chains
pub mod Contexts
