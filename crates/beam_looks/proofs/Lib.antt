pub mod After
pub mod Away
pub mod Counts
pub mod Modules
