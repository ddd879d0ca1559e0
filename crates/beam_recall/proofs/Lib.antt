pub mod CutShort
pub mod FileRead
pub mod Giving
pub mod Numbers
pub mod Sent
