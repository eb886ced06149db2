pub mod LongRun
pub mod Standing
pub mod Chain
