pub mod Finds
pub mod Shaped
