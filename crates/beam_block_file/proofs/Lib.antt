pub mod BytesAdded
pub mod KnownFiles
pub mod KnownFronts
pub mod KnownReads
