pub mod Chunks
pub mod Messages
