pub mod ReadResults
pub mod EachChunk
pub mod Forms
pub mod Loop
