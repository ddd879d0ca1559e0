pub mod FileAgain
pub mod Canonical
