pub mod FullHistory
pub mod Turns
pub mod JobSteps
