pub mod Heard
pub mod Places
pub mod Worked
