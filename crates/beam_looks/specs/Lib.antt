pub mod Counts
pub mod Lingering
pub mod Modules
pub mod Places
pub mod Rows
