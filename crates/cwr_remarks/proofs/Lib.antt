pub mod Ended
pub mod JsonText
pub mod LowBytes
