pub mod Fronts
pub mod ReadFaults
pub mod Shelves
pub mod StoredBlocks
