pub mod Tables
pub mod BarWidths
pub mod Mapped
pub mod ContextsOfSummaries
