pub mod RunFault
pub mod WordsFault
pub mod ListFault
