pub mod ReadResults
pub mod Spellings
pub mod Literals
pub mod Loop
pub mod Texts
pub mod Writing
