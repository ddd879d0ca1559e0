mod Depths
mod FunctionsComplete
pub mod ValidOperands
mod Lists
pub mod LabelTests
mod FunctionsSound
pub mod WellFormed
mod WorkedHeads
