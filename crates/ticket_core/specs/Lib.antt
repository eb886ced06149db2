pub mod TicketLock
pub mod TicketSteps
pub mod ArrayLock
pub mod ArraySteps
pub mod Order
pub mod Reading
