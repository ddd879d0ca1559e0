pub mod Frames
pub mod Plain
pub mod Word
pub mod Words
pub mod Prelude
