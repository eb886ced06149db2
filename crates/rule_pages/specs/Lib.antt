pub mod Pages
pub mod Answers
pub mod Names
pub mod Texts
