pub mod FileParts
pub mod Refusals
pub mod Worked
