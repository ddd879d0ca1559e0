pub mod ChangedBytes
pub mod Cuts
pub mod MoreBytes
pub mod RoundTrip
pub mod Stands
