pub mod NodeStart
pub mod Keeping
pub mod Ports
pub mod Crossing
