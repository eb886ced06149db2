pub mod Accounts
pub mod Pieces
pub mod Grouped
pub mod Chains
pub mod lemmas
