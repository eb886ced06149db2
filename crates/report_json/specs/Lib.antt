pub mod Json
pub mod JsonText
