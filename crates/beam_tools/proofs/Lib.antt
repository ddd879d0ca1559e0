mod Elements
pub mod Entered
pub mod Faults
pub mod Jobs
pub mod Left
mod Loaded
mod Modes
mod Numbers
pub mod TextLines
mod Rows
mod Services
pub mod Stops
pub mod AppendedTexts
pub mod Turns
mod Whole
