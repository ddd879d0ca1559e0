pub mod Crossing
pub mod WrittenEntries
