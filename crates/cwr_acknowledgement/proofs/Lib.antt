pub mod AckTexts
pub mod AckValues
pub mod AckSteps
pub mod AckLaw
pub mod Puts
pub mod AckParts
pub mod AckLines
pub mod OverLines
