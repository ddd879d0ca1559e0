pub mod Access
pub mod Fields
pub mod Queries
pub mod Requests
pub mod Responses
pub mod Targets
pub mod Values
