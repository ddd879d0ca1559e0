mod Quoted
pub mod Texts
mod Items
pub mod IntegerRoundTrip
pub mod AtomRoundTrip
pub mod TermRoundTrip
mod ReadingSound
mod Within
mod ReadingComplete
pub mod Depths
pub mod Rooms
mod Pairs
pub mod Stack
