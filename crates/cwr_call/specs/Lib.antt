pub mod CallValue
pub mod KeptControl
pub mod Lawful
