pub mod Drafting
pub mod Drops
pub mod Followers
pub mod OneByOne
pub mod Slots
pub mod Synced
