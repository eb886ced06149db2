pub mod AckItem
pub mod Messages
pub mod Acknowledgement
pub mod AckLineWriter
pub mod Outgoing
