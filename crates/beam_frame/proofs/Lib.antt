pub mod Bodies
pub mod Spelling
pub mod Files
mod Fits
pub mod Numbers
pub mod Streams
pub mod Worked
