mod Places
mod TicketRuns
pub mod lemmas
