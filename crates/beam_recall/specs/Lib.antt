pub mod CutRows
pub mod Recalling
