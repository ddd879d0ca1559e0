pub mod Replayed
pub mod DrainedEntries
pub mod Counts
mod Walks
