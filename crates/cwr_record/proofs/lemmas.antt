pub mod Codes
pub mod LineParts
pub mod RoundTrip
pub mod Spelled
