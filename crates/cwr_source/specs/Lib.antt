pub mod Source
pub mod Input
