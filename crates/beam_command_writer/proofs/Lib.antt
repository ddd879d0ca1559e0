pub mod BigNumbers
pub mod RoundTrip
pub mod Spelled
pub mod Unspelled
pub mod UpgradeFiles
