pub mod ReadResults
pub mod InstructionsAtStarts
pub mod Codes
pub mod Loops
pub mod ReadingLayout
pub mod Grouped
pub mod Written
pub mod Meaning
pub mod RoundTrip
pub mod Lent
pub mod Short
pub mod Whole
pub mod Wide
pub mod LabelBytes
pub mod Ascending
mod Shared
