pub mod Sending
pub mod lemmas
mod Windows
mod Stops
mod Consumed
