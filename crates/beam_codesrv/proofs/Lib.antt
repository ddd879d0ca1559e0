pub mod Homes
pub mod Copies
pub mod SameNumbers
pub mod Apart
pub mod Several
