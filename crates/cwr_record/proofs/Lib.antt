mod LeastFault
mod Fronts
pub mod LineTexts
mod SameRecords
mod TerritoryDigits
mod TrailingBlanks
pub mod lemmas
