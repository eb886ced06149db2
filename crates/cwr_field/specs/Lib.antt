pub mod Layout
pub mod Number
pub mod Share
pub mod Calendar
pub mod Iswc
pub mod Scan
pub mod Shown
