pub mod FileWords
pub mod FileLists
pub mod AsWords
