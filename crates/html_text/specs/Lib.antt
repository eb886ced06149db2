pub mod Fragments
pub mod Pieces
pub mod Markup
pub mod FileNames
pub mod Contexts
