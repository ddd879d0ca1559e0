pub mod Given
mod Pages
mod Heads
pub mod ReadOn
