pub mod Flags
pub mod Parts
