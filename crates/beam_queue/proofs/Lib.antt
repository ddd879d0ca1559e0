pub mod ReturningStealers
pub mod AddingStealers
pub mod Draining
pub mod Moves
pub mod Named
pub mod Stealing
pub mod AllStealersAdded
pub mod Sums
