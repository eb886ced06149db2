pub mod CheckText
pub mod ShortReport
