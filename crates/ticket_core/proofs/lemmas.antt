pub mod TicketLawful
pub mod ArrayLawful
pub mod ArrayStates
pub mod ArrayRuns
