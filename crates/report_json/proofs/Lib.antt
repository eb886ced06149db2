mod OneByOne
pub mod Fronts
pub mod JsonStrings
pub mod JsonRuns
pub mod JsonText
