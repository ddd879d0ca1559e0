pub mod Counts
pub mod Drained
pub mod Entering
pub mod Refusal
