pub mod Homes
pub mod Numbers
pub mod Refusal
pub mod Replacement
pub mod Several
