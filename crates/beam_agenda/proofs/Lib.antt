pub mod Counting
pub mod Due
pub mod Groups
pub mod Pairing
pub mod FlagsAndTimes
pub mod Positions
pub mod Same
pub mod LevelAbove
