pub mod Faults
pub mod Puts
