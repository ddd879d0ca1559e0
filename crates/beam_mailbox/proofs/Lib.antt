pub mod Chosen
pub mod Flushed
pub mod Joined
pub mod Pointer
pub mod Short
