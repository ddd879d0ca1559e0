pub mod Forced
pub mod OperandRoles
pub mod Shown
pub mod Tabled
pub mod Trees
pub mod Prelude
