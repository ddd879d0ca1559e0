pub mod SoFar
pub mod Noted
