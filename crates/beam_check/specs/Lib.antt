pub mod Stage
pub mod Fault
pub mod LabelSet
pub mod ValidOperands
