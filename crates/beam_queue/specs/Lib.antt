pub mod Closing
pub mod Counting
pub mod RunQueues
pub mod Making
pub mod Rule
pub mod Prelude
