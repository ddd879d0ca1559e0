pub mod Begun
mod Listed
pub mod Texts
