pub mod Receipts
pub mod Refused
pub mod Rule
