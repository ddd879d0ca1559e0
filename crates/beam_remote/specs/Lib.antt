pub mod Found
pub mod Loading
pub mod Numbers
pub mod Serving
pub mod Tape
pub mod DeviceHistory
pub mod Prelude
