pub mod Bytes
pub mod Frames
pub mod InProgress
pub mod Moments
pub mod Preparing
